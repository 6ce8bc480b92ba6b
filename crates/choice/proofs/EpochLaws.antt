-- Document 01, "Comparing two chains", covering: a product that saturates at 64 bits, and the test with its steps as they came out.
use Prim.Native.Nat.{ℕ, ◌+◌, ◌-◌, ◌*◌, ◌/◌, ◌<◌, ◌≤◌}
use mathlib.Core.Path.{◌≡◌, refl, sym, ◌∙◌}
use mathlib.Core.Bool.{Bool, true}
use native.Mathlib.Nat.{div-lt_iff_lt-mul}
use native.Mathlib.Omega.{arith}
use lib.Dec.{leb}
use borrow.Author.Tests.{lt-ltb, le-ltb, eq-eqb, ne_eqb}
use Rattle.amount.specs.Amounts.{unreadable}
use Rattle.model.specs.Record.{Header}
use Rattle.model.specs.Comparing.{covers, saturated}
use Rattle.choice.specs.Parts.{Covering}

-- a quotient tells a product that is too large, ..
pub too_large : (a b : ℕ) → 0 < b → 18446744073709551615 / b < a → 18446744073709551615 ≡ saturated (a * b)
too_large a b p h = let l : 18446744073709551615 < a * b = (div-lt_iff_lt-mul p).0 h in omega arith

-- .. and one that fits
pub fits : (a b : ℕ) → 0 < b → a ≤ 18446744073709551615 / b → a * b ≤ 18446744073709551615
fits a b p h = let no_more : 18446744073709551615 < a * b → ⊥ = λ l. omega (arith, (div-lt_iff_lt-mul p).1 l) in omega arith

-- .. of which nothing is left without blocks
pub none_left : (a b : ℕ) → b ≡ 0 → 0 ≡ saturated (a * b)
none_left a b e = rw e (omega arith)

module _ (index epoch n : ℕ) where
  -- epoch below 2 or blocks per epoch 0;
  pub early : epoch < 2 → Covering index epoch n true
  unfolding covers
  early h b i e = rw (e, lt-ltb epoch 2 h)

  pub no_blocks : 2 ≤ epoch → n ≡ 0 → Covering index epoch n true
  unfolding covers
  no_blocks h z b i e = rw (e, le-ltb epoch 2 h, eq-eqb n 0 z)

  -- otherwise index + 1 ≥ (epoch - 2) × n + n
  pub by_steps : {t s r : ℕ} → 2 ≤ epoch → (n ≡ 0 → ⊥) → t ≡ saturated ((epoch - 2) * n) → s ≡ saturated (t + n) → r ≡ saturated (index + 1) → Covering index epoch n (leb s r)
  unfolding covers
  by_steps h z p q k b i e = rw (i, e, le-ltb epoch 2 h, ne_eqb n 0 z, k, q, p)

  -- a tip has one answer
  pub one_answer : (r s : Bool) → Covering index epoch n r → Covering index epoch n s → r ≡ s
  one_answer r s p q = p some_tip refl refl ∙ sym (q some_tip refl refl)
    where
      some_tip : Header
      some_tip = record { hash = 0; index = index; epoch = epoch; prev = 0; target = unreadable; actual = unreadable }
