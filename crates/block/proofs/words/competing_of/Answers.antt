-- `block::words::competing_of` meets its contract. Each arm is one case of the definition.
use mathlib.Core.Option.{some}
use mathlib.Core.Path.{ap}
use Rattle.block.proofs.words.competing_of.Goals as goal

pub returns-then-there : goal.returns-then-there
returns-then-there c = rw c.if-there.true (ap some c.hash_of.ensures)
