-- `block::words::reading_words` meets its contract. Each arm is one case of the definition.
use mathlib.Core.Path.{refl}
use Rattle.block.proofs.words.reading_words.Goals as goal

pub returns-in-Readable : goal.returns-in-Readable
returns-in-Readable c = rw c.in-Readable.is (refl, c.to_words-w.ensures)

pub returns-in-Unreadable : goal.returns-in-Unreadable
returns-in-Unreadable c = rw c.in-Unreadable.is (refl, refl, refl)
