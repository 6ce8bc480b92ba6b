-- `boundary::telling::write_listed` meets its contract.
use Rattle.boundary.proofs.ShownLaws.{tells_listed, tells_no_list}
use Rattle.boundary.proofs.telling.write_listed.Goals as goal

pub returns-in-Count : goal.returns-in-Count
returns-in-Count c = tells_listed _ c.in-Count.is

pub returns-in-None : goal.returns-in-None
returns-in-None c = tells_no_list _ c.in-None.is
