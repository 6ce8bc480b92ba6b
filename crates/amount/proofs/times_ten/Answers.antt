-- `amount::times_ten` meets its contract, by that of `times_ten_words` on its limbs.
use Rattle.amount.specs.Value.{value}
use Rattle.amount.proofs.times_ten.Goals as goal

pub returns : goal.returns
unfolding value
returns c = c.times_ten_words.ensures
