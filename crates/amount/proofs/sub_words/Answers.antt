-- `amount::sub_words` meets its contract: what is left in each of its four cases.
use Rattle.amount.proofs.Limbs as limbs
use Rattle.amount.proofs.sub_words.Goals as goal

-- each answer, in the order of the code
pub returns-then-a1-b1 : goal.returns-then-a1-b1
returns-then-a1-b1 c = limbs.worth c.zero.ensures (limbs.none_left_high _ _ _ _ c.ranges.a0.fits c.if-a1-b1.true)

pub returns-then-b0-a0 : goal.returns-then-b0-a0
returns-then-b0-a0 c = limbs.worth c.from_words.ensures (limbs.left _ _ _ _ c.if-a1-b1.false c.if-b0-a0.true)

pub returns-then-high-eq0 : goal.returns-then-high-eq0
returns-then-high-eq0 c =
    limbs.worth c.zero-then-high-eq0.ensures
    (limbs.none_left_low _ _ _ _ c.if-a1-b1.false c.if-high-eq0.true c.if-b0-a0.false)

pub returns : goal.returns
returns c =
    limbs.worth c.from_words-2.ensures
    (limbs.left_borrowing _ _ _ _ c.if-a1-b1.false c.if-high-eq0.false c.if-b0-a0.false
    c.ranges.b0.fits)
