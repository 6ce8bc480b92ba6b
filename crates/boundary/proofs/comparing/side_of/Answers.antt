-- `boundary::comparing::side_of` meets its contract.
use Rattle.boundary.proofs.comparing.side_of.Goals as goal

pub returns : goal.returns
returns c = rw c.work_of.ensures
