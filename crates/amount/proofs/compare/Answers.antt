-- `amount::compare` meets its contract, by that of `compare_words` on its limbs.
use Rattle.amount.specs.Value.{value}
use Rattle.amount.proofs.compare.Goals as goal

pub returns : goal.returns
unfolding value
returns c = c.compare_words.ensures
