-- `cadraspes::cadraspes_amount` meets its contract.
use mathlib.Core.Path.{refl}
use Rattle.boundary.proofs.ToldLaws.{of_reading}
use Rattle.cadraspes.proofs.cadraspes_amount.Goals as goal

pub returns : goal.returns
returns c = (refl, of_reading c.read-x.ensures c.tell_amount.ensures)
