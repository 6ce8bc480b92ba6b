-- `places::is_canonical` meets its contract.
use Prim.Native.Nat.{◌-◌, ◌%◌}
use borrow.Author.Tests.{eq-eqb, ne_eqb}
use Rattle.places.proofs.is_canonical.Goals as goal

pub returns-then-w-eq0 : goal.returns-then-w-eq0
returns-then-w-eq0 c = rw (eq-eqb c.args.w 0 c.if-w-eq0.true)

pub returns-then-w-eq1 : goal.returns-then-w-eq1
returns-then-w-eq1 c = rw (ne_eqb c.args.w 0 c.if-w-eq0.false, eq-eqb ((c.args.w - 1) % 2) 1 c.if-w-eq1.true)

pub returns : goal.returns
returns c = rw (ne_eqb c.args.w 0 c.if-w-eq0.false, ne_eqb ((c.args.w - 1) % 2) 1 c.if-w-eq1.false)
