-- `plans::next` meets its contract. A clock that is bound fits its type, so it is the number of its bits.
use mathlib.Core.Path.{◌≡◌}
use mir.Syntax.{w64}
use mir.Val.{of_z, to_z}
use borrow.Author.Rules.{rules}
use Rattle.plans.proofs.next.Goals as goal

pub returns-in-None : goal.returns-in-None
returns-in-None c = rw c.in-None.is c.take_next.ensures

pub returns-in-At : goal.returns-in-At
returns-in-At c = let z = c.in-At.clock in
    let e : to_z w64 (of_z w64 z) ≡ z = search rules in
    rw c.in-At.is (rw e at c.take_next-in-At.ensures)
