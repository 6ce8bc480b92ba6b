-- `plans::begun_of` meets its contract.
use mathlib.Core.Path.{refl}
use Rattle.plans.proofs.begun_of.Goals as goal

pub returns-in-Scan : goal.returns-in-Scan
returns-in-Scan c = rw c.in-Scan.is refl

pub returns-in-Apply : goal.returns-in-Apply
returns-in-Apply c = rw c.in-Apply.is refl
