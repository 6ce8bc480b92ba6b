-- `boundary::comparing::work_of` meets its contract. Each arm is one case of the definition.
use borrow.Author.Tests.{ne_eqb}
use Rattle.boundary.proofs.comparing.work_of.Goals as goal

pub returns-then-kind-eq1 : goal.returns-then-kind-eq1
returns-then-kind-eq1 c = rw (c.if-kind-eq1.true, c.from_words.ensures.exact)

pub returns : goal.returns
returns c = rw (ne_eqb c.args.kind 1 c.if-kind-eq1.false)
