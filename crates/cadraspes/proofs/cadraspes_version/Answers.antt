-- `cadraspes::cadraspes_version` meets its contract.
use Rattle.boundary.proofs.ToldLaws.{tells_version}
use Rattle.cadraspes.proofs.cadraspes_version.Goals as goal

pub returns : goal.returns
returns c = tells_version c.tell_count.ensures c.version.ensures
