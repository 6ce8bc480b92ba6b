-- `holdings::clash` meets its contract.
use borrow.Author.Tests.{eq-eqb, ne_eqb}
use Rattle.holdings.proofs.clash.Goals as goal

pub returns-then-held-eq0 : goal.returns-then-held-eq0
returns-then-held-eq0 c = rw (eq-eqb c.args.held 0 c.if-held-eq0.true)

pub returns-then-held-eq1 : goal.returns-then-held-eq1
returns-then-held-eq1 c = rw (ne_eqb c.args.held 0 c.if-held-eq0.false, eq-eqb c.args.held 1 c.if-held-eq1.true)

pub returns : goal.returns
returns c = rw (ne_eqb c.args.held 0 c.if-held-eq0.false, ne_eqb c.args.held 1 c.if-held-eq1.false)
