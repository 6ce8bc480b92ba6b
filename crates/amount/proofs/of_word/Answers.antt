-- `amount::of_word` meets its contract, by that of `from_words`.
use Rattle.amount.proofs.Limbs as limbs
use Rattle.amount.proofs.of_word.Goals as goal

pub returns : goal.returns
returns c = limbs.worth c.from_words.ensures (limbs.low_word _)
