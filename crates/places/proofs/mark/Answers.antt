-- `places::mark` meets its contract.
use Rattle.places.proofs.StepLaws.{mark_done}
use mathlib.Core.Path.{refl}
use Rattle.places.proofs.mark.Goals as goal

pub returns : goal.returns
returns c = mark_done _ _ _ _ _ c.requires.0 c.requires.1 (record { now_is = refl })
