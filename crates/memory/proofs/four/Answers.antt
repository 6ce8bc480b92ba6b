-- `memory::four` meets its contract: four stores, one after another.
use native.Mathlib.Omega.{arith}
use mathlib.Core.Path.{refl}
use Rattle.memory.proofs.WordLaws.{four_done}
use Rattle.memory.proofs.four.Goals as goal

pub returns : goal.returns
returns c = four_done _ _ _ _ _ _ _ _ _ _ (omega arith) (record { now_is = refl }) (record { now_is = refl }) (record { now_is = refl }) (record { now_is = refl })
