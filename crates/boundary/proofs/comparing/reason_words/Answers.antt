-- `boundary::comparing::reason_words` meets its contract.
use Rattle.block.proofs.TellingLaws.{tells_reason}
use Rattle.boundary.proofs.comparing.reason_words.Goals as goal

pub returns : goal.returns
returns c = tells_reason _ _ _ c.copy_words.ensures.reason
