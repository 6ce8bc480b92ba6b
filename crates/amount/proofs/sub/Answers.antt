-- `amount::sub` meets its contract, by that of `sub_words` on its limbs.
use Rattle.amount.specs.Value.{value}
use Rattle.amount.proofs.sub.Goals as goal

pub returns : goal.returns
unfolding value
returns c = c.sub_words.ensures
