-- `choice::times` meets its contract. The quotient tells whether the product fits.
use native.Mathlib.Omega.{arith}
use Rattle.choice.proofs.EpochLaws.{none_left, too_large, fits}
use Rattle.choice.proofs.times.Goals as goal

pub returns-then-b-eq0 : goal.returns-then-b-eq0
returns-then-b-eq0 c = none_left c.args.a c.args.b c.if-b-eq0.true

pub returns-then-b-a : goal.returns-then-b-a
returns-then-b-a c = let a = c.args in too_large a.a a.b (omega arith) c.if-b-a.true

pub overflow_mul-result : goal.overflow_mul-result
overflow_mul-result c = let a = c.args in omega (arith, fits a.a a.b (omega arith) c.if-b-a.false)

pub returns : goal.returns
returns c = let a = c.args in omega (arith, fits a.a a.b (omega arith) c.if-b-a.false)
