-- `amount::sixteenth` meets its contract, by that of `sixteenth_words` on its limbs.
use Rattle.amount.specs.Value.{value}
use Rattle.amount.proofs.sixteenth.Goals as goal

pub returns : goal.returns
unfolding value
returns c = c.sixteenth_words.ensures
