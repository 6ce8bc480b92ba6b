-- `plans::room_in` meets its contract.
use mathlib.Core.Path.{refl}
use Rattle.plans.proofs.room_in.Goals as goal

pub returns-in-Writes : goal.returns-in-Writes
returns-in-Writes c = rw c.in-Writes.is refl
