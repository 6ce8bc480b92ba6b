-- `boundary::planning::begin_select` meets its contract.
use Rattle.boundary.proofs.planning.begin_select.Goals as goal

pub returns : goal.returns
returns c = rw c.floor_from-f.ensures at c.begin_select.ensures
