-- `extending::promote_code` meets its contract.
use native.Mathlib.Omega.{arith}
use borrow.Author.Tests.{ne_eqb}
use Rattle.extending.proofs.PieceLaws.{promote_first}
use Rattle.extending.proofs.promote_code.Goals as goal

pub returns-then-was-eq4 : goal.returns-then-was-eq4
returns-then-was-eq4 c = record { some = omega arith; right = promote_first c.args.was c.if-was-eq4.true }

pub returns : goal.returns
returns c = record { some = omega arith; right = rw (ne_eqb c.args.was 4 c.if-was-eq4.false) }
