-- `choice::by_tip` meets its contract.
use mathlib.Core.Path.{◌∙◌}
use Rattle.block.specs.Records.{hash_means}
use Rattle.choice.proofs.ChoiceLaws.{peer_tip_lem, local_tip_lem, same_tip_lem}
use Rattle.choice.specs.Parts.{by_hash}
use Rattle.choice.proofs.by_tip.Goals as goal

pub returns-then-local-peer : goal.returns-then-local-peer
returns-then-local-peer c = let a = c.args in c.adopt.ensures ∙ peer_tip_lem a.local a.peer (by_hash (hash_means a.ours) (hash_means a.theirs)) c.if-local-peer.true

pub returns-then-peer-local : goal.returns-then-peer-local
returns-then-peer-local c = let a = c.args in c.keep.ensures ∙ local_tip_lem a.local a.peer (by_hash (hash_means a.ours) (hash_means a.theirs)) c.if-peer-local.true

pub returns : goal.returns
returns c = let a = c.args in c.by_hash.ensures ∙ same_tip_lem a.local a.peer (by_hash (hash_means a.ours) (hash_means a.theirs)) c.if-local-peer.false c.if-peer-local.false
