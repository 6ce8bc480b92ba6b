-- `choice::by_hash` meets its contract.
use mathlib.Core.Path.{sym, ◌∙◌}
use Rattle.block.specs.Records.{hash_means}
use Rattle.choice.proofs.ChoiceLaws.{lower_hash_lem, other_hash}
use Rattle.choice.proofs.by_hash.Goals as goal

pub returns-then-less : goal.returns-then-less
returns-then-less c = let a = c.args in c.adopt.ensures ∙ lower_hash_lem (hash_means a.local) (hash_means a.peer) (sym c.less.ensures ∙ c.if-less.true)

pub returns : goal.returns
returns c = let a = c.args in c.keep.ensures ∙ other_hash (hash_means a.local) (hash_means a.peer) (sym c.less.ensures ∙ c.if-less.false)
