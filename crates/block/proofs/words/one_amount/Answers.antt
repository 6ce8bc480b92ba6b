-- `block::words::one_amount` meets its contract. The two words are those of the amount, and the other two are 0.
use Rattle.block.proofs.words.one_amount.Goals as goal

pub returns : goal.returns
returns c =
    let w = c.four_words.ensures.1 in
    (c.four_words.ensures.0, record { first = rw (w.first, w.second) c.to_words-w.ensures; third = w.third; fourth = w.fourth })
