-- `cadraspes::cadraspes_put` meets its contract.
use Rattle.cadraspes.proofs.CallLaws.{puts}
use Rattle.cadraspes.proofs.cadraspes_put.Goals as goal

pub returns : goal.returns
returns c = puts c.block_from-b.ensures c.done_number.ensures c.put.ensures
