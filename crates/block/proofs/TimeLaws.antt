-- Signed times as a kind and a word below 2^63, over the bits that the machine keeps.
use Prim.Native.Nat.{ℕ, zero, suc, ◌+◌, ◌-◌, ◌%◌, ◌<◌}
use mathlib.Core.Bool.{true, false}
use mathlib.Core.Path.{◌≡◌, refl, ◌∙◌, ap}
use native.Mathlib.Omega.{arith}
use borrow.Author.Tests.{le-ltb, ltb-true}
use lib.IntN.{ℤ, pos, negsuc, ◌-ℤ◌}
use lib.Signed.{lt_z}
use mir.Syntax.{w64}
use mir.Val.{SFits, of_z, to_z}
use mir.ValLaws.{to_z-of_z, to_z_pos}
use Rattle.block.specs.Words.{half}
use Rattle.block.specs.Writing.{SignedIs}

-- ---- reading ----

pub small : (w : ℕ) → w % half < half
small w = omega arith

pub as_signed : (n : ℕ) → n < half → to_z w64 n ≡ pos n
as_signed n h = to_z_pos w64 n h

pub minus_one : (n : ℕ) → n < half → negsuc 0 -ℤ to_z w64 n ≡ negsuc n
minus_one n h = rw (as_signed n h) (by n)
  where
    by : (n : ℕ) → negsuc 0 -ℤ pos n ≡ negsuc n
    by zero = refl
    by (suc m) = ap (λ (k : ℕ). negsuc (suc k)) (let e : 0 + m ≡ m = omega arith in e)

-- ---- writing ----

flip : (n : ℕ) → negsuc 0 -ℤ negsuc n ≡ pos n
flip n = let e : suc n - 1 ≡ n = omega arith in rw (le-ltb (suc n) 1 (omega arith), e)

pub record Negative (z : ℤ) : Type 0 where
  pub n : ℕ
  pub is : z ≡ negsuc n
  pub below : n < half

pub record Positive (z : ℤ) : Type 0 where
  pub n : ℕ
  pub is : z ≡ pos n
  pub below : n < half

-- (The machine's test is on the number that its bits are.)
pub negative : (z : ℤ) → SFits w64 z → lt_z (to_z w64 (of_z w64 z)) (pos 0) ≡ true → Negative z
negative z f t = by z f (rw (to_z-of_z w64 z f) at t)
  where
    by : (z : ℤ) → SFits w64 z → lt_z z (pos 0) ≡ true → Negative z
    by (pos n) f t = absurd (omega (arith, ltb-true n 0 t))
    by (negsuc n) f t = record { n = n; is = refl; below = f.sfits }

pub positive : (z : ℤ) → SFits w64 z → lt_z (to_z w64 (of_z w64 z)) (pos 0) ≡ false → Positive z
positive z f t = by z f (rw (to_z-of_z w64 z f) at t)
  where
    by : (z : ℤ) → SFits w64 z → lt_z z (pos 0) ≡ false → Positive z
    by (pos n) f t = record { n = n; is = refl; below = f.sfits }
    by (negsuc n) f t = absurd (let z : ◌≡◌ {A = ℕ} 0 1 = cc in omega arith)

-- what is written of a negative number, and of another
pub flipped : (z : ℤ) → SFits w64 z → (g : Negative z) → negsuc 0 -ℤ to_z w64 (of_z w64 z) ≡ pos g.n
flipped z f g = rw (to_z-of_z w64 z f, g.is) (flip g.n)

pub written : (z : ℤ) → SFits w64 z → (g : Positive z) → to_z w64 (of_z w64 z) ≡ pos g.n
written z f g = to_z-of_z w64 z f ∙ g.is

pub negative_is : (z : ℤ) (g : Negative z) → SignedIs z 2 g.n
negative_is z g = rw g.is (record { kind_is = refl; word_is = refl; below = g.below })

pub positive_is : (z : ℤ) (g : Positive z) → SignedIs z 1 g.n
positive_is z g = rw g.is (record { kind_is = refl; word_is = refl; below = g.below })
