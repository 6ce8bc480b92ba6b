-- `hash::hash_of` meets its contract. Four words of eight bytes are the number of all 32.
use Rattle.hash.proofs.HashLaws.{from_words_lem}
use Rattle.hash.proofs.hash_of.Goals as goal

pub returns : goal.returns
returns c =
    rw (c.word_at-first.ensures, c.word_at-second.ensures, c.word_at-third.ensures, c.word_at-fourth.ensures) (from_words_lem c.args.bytes.now c.requires)
