-- `cadraspes::cadraspes_choose` meets its contract.
use mathlib.Core.Path.{refl}
use Rattle.boundary.proofs.ComparedLaws.{tells_chosen}
use Rattle.cadraspes.proofs.cadraspes_choose.Goals as goal

pub returns : goal.returns
returns c = (refl, tells_chosen c.side_from-ours.ensures c.side_from-theirs.ensures c.choose.ensures c.tell_choice.ensures)
