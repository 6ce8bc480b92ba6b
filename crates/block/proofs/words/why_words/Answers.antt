-- `block::words::why_words` meets its contract. Each arm is one case of the definition.
use Rattle.block.proofs.words.why_words.Goals as goal

pub returns-in-None : goal.returns-in-None
returns-in-None c = rw c.in-None.is c.four_words.ensures

pub returns-in-Because : goal.returns-in-Because
returns-in-Because c = rw c.in-Because.is c.reason_words.ensures
