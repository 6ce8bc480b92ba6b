-- `block::words::competing_words` meets its contract. Each arm is one case of the definition.
use mathlib.Core.Path.{refl}
use Rattle.block.proofs.words.competing_words.Goals as goal

pub returns-in-None : goal.returns-in-None
returns-in-None c = rw c.in-None.is (record { first = refl; second = refl; third = refl; fourth = refl })

pub returns-in-With : goal.returns-in-With
returns-in-With c = rw c.in-With.is c.hash_words.ensures
