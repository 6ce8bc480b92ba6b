-- `cadraspes::cadraspes_load` meets its contract.
use Rattle.cadraspes.proofs.CallLaws.{loads}
use Rattle.cadraspes.proofs.cadraspes_load.Goals as goal

pub returns : goal.returns
returns c = loads c.block_from-b.ensures c.done_number.ensures c.load.ensures
