-- `cadraspes::cadraspes_covers` meets its contract.
use Rattle.boundary.proofs.ComparedLaws.{tells_covers}
use Rattle.cadraspes.proofs.cadraspes_covers.Goals as goal

pub returns : goal.returns
returns c = tells_covers _ _ _ c.flag.ensures c.covers.ensures
