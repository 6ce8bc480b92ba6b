-- `boundary::records::copy_of` meets its contract.
use Rattle.boundary.proofs.RecordLaws.{with_copy_lem, without_copy}
use Rattle.boundary.proofs.records.copy_of.Goals as goal

pub returns-in-Copy : goal.returns-in-Copy
returns-in-Copy c = with_copy_lem c.in-Copy.is c.read_copy.ensures

pub returns-in-None : goal.returns-in-None
returns-in-None c = without_copy c.in-None.is c.read_copy.ensures
