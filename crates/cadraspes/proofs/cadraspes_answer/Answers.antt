-- `cadraspes::cadraspes_answer` meets its contract.
use Rattle.cadraspes.proofs.CallLaws.{answers}
use Rattle.cadraspes.proofs.cadraspes_answer.Goals as goal

pub returns : goal.returns
returns c = answers c.from_bytes-h.ensures c.done_number.ensures c.answer.ensures
