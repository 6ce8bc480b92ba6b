-- `cadraspes::cadraspes_start` meets its contract.
use Rattle.cadraspes.proofs.CallLaws.{starts}
use Rattle.cadraspes.proofs.cadraspes_start.Goals as goal

pub returns : goal.returns
returns c = starts c.done_number.ensures c.start.ensures
