-- `amount::from_words` meets its contract: the two words are the limbs, and two words make no value of the limit or more.
use mathlib.Core.Path.{refl}
use Rattle.amount.specs.Value.{value}
use Rattle.amount.proofs.Limbs as limbs
use Rattle.amount.proofs.from_words.Goals as goal

pub returns : goal.returns
unfolding value
returns c = record { exact = refl; below = limbs.below _ _ c.ranges.x.fits c.ranges.y.fits }
