-- `cadraspes::cadraspes_effective` meets its contract.
use Rattle.boundary.proofs.ShownLaws.{shows}
use Rattle.cadraspes.proofs.cadraspes_effective.Goals as goal

pub returns : goal.returns
returns c = shows c.from_bytes-h.ensures c.tell_shown.ensures c.effective.ensures
