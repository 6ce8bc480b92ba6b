-- `block::numbers::answer_of` meets its contract. Each arm is one case of the definition.
use borrow.Author.Tests.{lt-ltb}
use native.Mathlib.Omega.{arith}
use Rattle.block.proofs.numbers.answer_of.Goals as goal

pub returns-in-0 : goal.returns-in-0
returns-in-0 c = rw c.in-0.is

pub returns-in-1 : goal.returns-in-1
returns-in-1 c = rw c.in-1.is

pub returns-in-2 : goal.returns-in-2
returns-in-2 c = rw c.in-2.is

pub returns-in_default : goal.returns-in_default
returns-in_default c = rw (lt-ltb 2 c.args.n (omega arith))
