-- `cadraspes::cadraspes_remove` meets its contract.
use Rattle.cadraspes.proofs.CallLaws.{removes}
use Rattle.cadraspes.proofs.cadraspes_remove.Goals as goal

pub returns : goal.returns
returns c = removes c.from_bytes-h.ensures c.done_number.ensures c.remove.ensures
