-- `walks::below` meets its contract.
use borrow.Author.Tests.{lt-ltb, le-ltb}
use Rattle.walks.proofs.below.Goals as goal

pub returns-then-index-f : goal.returns-then-index-f
returns-then-index-f c = rw (c.in-At.is, lt-ltb _ _ c.if-index-f.true)

pub returns-in-At : goal.returns-in-At
returns-in-At c = rw (c.in-At.is, le-ltb _ _ c.if-index-f.false)
