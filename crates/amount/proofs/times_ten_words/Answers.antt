-- `amount::times_ten_words` meets its contract: a small word alone is multiplied whole, else the low word is taken in two halves, so that
-- no product wraps.
use mathlib.Core.Path.{refl}
use Rattle.amount.proofs.Limbs as limbs
use Rattle.amount.proofs.times_ten_words.Goals as goal

pub returns-then-x-le-SMALL : goal.returns-then-x-le-SMALL
returns-then-x-le-SMALL c = limbs.worth c.from_words.ensures (limbs.ten_small _ _ _ c.if-y-eq0.true)

pub overflow_sub-carry : goal.overflow_sub-carry
overflow_sub-carry c =
    limbs.carry_fits (limbs.ten_carry c.args.x c.args.digit _ _ refl refl c.requires c.ranges.x.fits)

pub returns-then-carry-y : goal.returns-then-carry-y
returns-then-carry-y c =
    limbs.over _ _ _
    (limbs.ten_over _ _ (limbs.ten_carry c.args.x c.args.digit _ _ refl refl c.requires c.ranges.x.fits) c.if-carry-y.true)
    (limbs.ten c.args.x c.args.digit _ _ refl refl _)

pub overflow_add-y : goal.overflow_add-y
overflow_add-y c =
    record { fits = limbs.ten_fits _ _ (limbs.ten_carry c.args.x c.args.digit _ _ refl refl c.requires c.ranges.x.fits) c.if-carry-y.false }

pub returns : goal.returns
returns c =
    limbs.worth c.from_words-2.ensures (limbs.ten c.args.x c.args.digit _ _ refl refl _)
