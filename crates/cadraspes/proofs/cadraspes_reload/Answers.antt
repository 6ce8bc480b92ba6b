-- `cadraspes::cadraspes_reload` meets its contract.
use Rattle.cadraspes.proofs.CallLaws.{reloads}
use Rattle.cadraspes.proofs.cadraspes_reload.Goals as goal

pub returns : goal.returns
returns c = reloads c.done_number.ensures c.reload.ensures
