-- `amount::add_words` meets its contract: the two words of the sum, and what shows that it has more than two.
use native.Mathlib.Nat.{le_trans, le-add_right}
use Rattle.amount.proofs.Limbs as limbs
use Rattle.amount.proofs.add_words.Goals as goal

-- the high words alone are too large
pub returns-then-a1-b1 : goal.returns-then-a1-b1
returns-then-a1-b1 c =
    let low = c.low_sum-low in
    let args = c.args in
    limbs.over _ _ _ (le_trans (limbs.too_high _ _ c.if-a1-b1.true) (le-add_right _ low.result.carry))
    (limbs.sum _ args.a1 _ args.b1 low.result.word _ low.ensures.0)

-- they are, with the carry
pub returns-then-high-carry : goal.returns-then-high-carry
returns-then-high-carry c =
    let low = c.low_sum-low in
    let args = c.args in
    limbs.over _ _ _ (limbs.too_high _ _ c.if-high-carry.true)
    (limbs.sum _ args.a1 _ args.b1 low.result.word _ low.ensures.0)

pub overflow_add-high-2 : goal.overflow_add-high-2
overflow_add-high-2 c =
    record { fits = limbs.fits _ _ (limbs.fits _ _ c.ranges.a1.fits c.if-a1-b1.false) c.if-high-carry.false }

pub returns : goal.returns
returns c =
    let low = c.low_sum-low in
    let args = c.args in
    limbs.worth c.from_words.ensures (limbs.sum _ args.a1 _ args.b1 _ low.result.carry low.ensures.0)
