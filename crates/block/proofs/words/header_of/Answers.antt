-- `block::words::header_of` meets its contract. Each part decodes as its function promises.
use Rattle.block.specs.Words.{header_of}
use Rattle.block.proofs.words.header_of.Goals as goal

pub returns : goal.returns
unfolding header_of
returns c = rw (c.hash_of.ensures, c.hash_of-2.ensures, c.reading_of.ensures, c.reading_of-2.ensures)
