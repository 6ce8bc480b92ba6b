-- `boundary::planning::tell_begun` meets its contract.
use Rattle.boundary.proofs.planning.tell_begun.Goals as goal

pub returns : goal.returns
returns c = rw c.planned.ensures at c.write_planned.ensures
