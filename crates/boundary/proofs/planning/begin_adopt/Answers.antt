-- `boundary::planning::begin_adopt` meets its contract.
use Rattle.boundary.proofs.planning.begin_adopt.Goals as goal

pub returns : goal.returns
returns c = rw c.floor_from-f.ensures at c.begin_adopt.ensures
