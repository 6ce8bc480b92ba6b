-- `cadraspes::cadraspes_effective_count` meets its contract.
use Rattle.boundary.proofs.ToldLaws.{tells_count}
use Rattle.cadraspes.proofs.cadraspes_effective_count.Goals as goal

pub returns : goal.returns
returns c = tells_count c.tell_count.ensures c.effective_count.ensures
