-- `cadraspes::cadraspes_sync` meets its contract.
use Rattle.cadraspes.proofs.TreeLaws.{syncs}
use Rattle.cadraspes.proofs.cadraspes_sync.Goals as goal

pub returns : goal.returns
returns c = syncs c.done_number.ensures c.sync.ensures
