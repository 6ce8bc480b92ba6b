-- `amount::compare_words` meets its contract: the high words decide, and where they are equal the low ones.
use Rattle.amount.proofs.Limbs as limbs
use Rattle.amount.proofs.compare_words.Goals as goal

-- each answer, in the order of the code
pub returns-then-a1-b1 : goal.returns-then-a1-b1
returns-then-a1-b1 c = limbs.less_high _ _ _ _ c.ranges.a0.fits c.if-a1-b1.true

pub returns-then-b1-a1 : goal.returns-then-b1-a1
returns-then-b1-a1 c = limbs.less_high _ _ _ _ c.ranges.b0.fits c.if-b1-a1.true

pub returns-then-a0-b0 : goal.returns-then-a0-b0
returns-then-a0-b0 c = limbs.less_low _ _ _ _ c.if-b1-a1.false c.if-a0-b0.true

pub returns-then-b0-a0 : goal.returns-then-b0-a0
returns-then-b0-a0 c = limbs.less_low _ _ _ _ c.if-a1-b1.false c.if-b0-a0.true

pub returns : goal.returns
returns c =
    limbs.same _ _ _ _ c.if-a1-b1.false c.if-b1-a1.false c.if-a0-b0.false
    c.if-b0-a0.false
