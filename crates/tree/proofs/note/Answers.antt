-- `tree::note` meets its contract.
use mathlib.Core.Path.{refl}
use Rattle.tree.proofs.SyncLaws.{noted}
use Rattle.tree.proofs.note.Goals as goal

pub returns : goal.returns
returns c = noted _ _ _ c.requires c.four.ensures (record { now_is = refl })
