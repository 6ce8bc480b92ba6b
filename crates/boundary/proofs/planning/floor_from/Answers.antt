-- `boundary::planning::floor_from` meets its contract.
use borrow.Author.Tests.{eq-eqb, ne_eqb}
use Rattle.boundary.proofs.planning.floor_from.Goals as goal

pub returns-then-given-eq0 : goal.returns-then-given-eq0
returns-then-given-eq0 c = rw (eq-eqb _ _ c.if-given-eq0.true)

pub returns : goal.returns
returns c = rw (ne_eqb _ _ c.if-given-eq0.false)
