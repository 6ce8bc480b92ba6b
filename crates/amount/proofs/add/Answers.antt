-- `amount::add` meets its contract, by that of `add_words` on its limbs.
use Rattle.amount.specs.Value.{value}
use Rattle.amount.proofs.add.Goals as goal

pub returns : goal.returns
unfolding value
returns c = c.add_words.ensures
