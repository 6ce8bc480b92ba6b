-- `plans::planned` meets its contract.
use mathlib.Core.Path.{refl}
use Rattle.plans.proofs.planned.Goals as goal

pub returns-in-Writes : goal.returns-in-Writes
returns-in-Writes c = rw c.in-Writes.is refl
