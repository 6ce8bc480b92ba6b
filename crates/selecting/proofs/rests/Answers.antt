-- `selecting::rests` meets its contract.
use borrow.Author.Tests.{eq-eqb, ne_eqb}
use Rattle.selecting.proofs.rests.Goals as goal

pub returns-then-top-local : goal.returns-then-top-local
returns-then-top-local c = rw (ne_eqb _ _ c.if-top-local.true)

pub returns : goal.returns
returns c = rw (eq-eqb _ _ c.if-top-local.false)
