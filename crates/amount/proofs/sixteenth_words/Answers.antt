-- `amount::sixteenth_words` meets its contract: the last four bits of the high word go down to the low one.
use mathlib.Core.Path.{◌∙◌, sym, ap}
use Prim.Native.Nat.{ℕ, ◌+◌, ◌*◌, ◌%◌}
use native.Mathlib.Omega.{arith}
use Rattle.amount.proofs.Limbs as limbs
use Rattle.amount.proofs.sixteenth_words.Goals as goal

pub overflow_add-y : goal.overflow_add-y
overflow_add-y c = record { fits = limbs.sixteen_fits _ _ c.ranges.x.fits }

pub returns : goal.returns
returns c =
    let made = c.from_words-rest.ensures in
    let args = c.args in
    record {
      exact = limbs.sixteen args.x args.y ∙ ap (λ (n : ℕ). n * 16 + args.x % 16) (sym made.exact);
      small = omega arith;
      below = made.below;
    }
