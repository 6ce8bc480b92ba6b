-- `amount::to_words` meets its contract: the limbs are the two words.
use mathlib.Core.Path.{refl}
use Rattle.amount.specs.Value.{value}
use Rattle.amount.proofs.to_words.Goals as goal

pub returns : goal.returns
unfolding value
returns c = refl
