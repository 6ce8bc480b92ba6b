-- `cadraspes::cadraspes_generation` meets its contract.
use Rattle.boundary.proofs.ToldLaws.{tells_generation}
use Rattle.cadraspes.proofs.cadraspes_generation.Goals as goal

pub returns : goal.returns
returns c = tells_generation c.tell_count.ensures c.generation.ensures
