-- Numbers of two words: what sums, differences and products do to the words, in terms of `from_words` (document 01, "Port order").
-- The proofs of this crate's functions cite it.
use mathlib.Core.Path.{◌≡◌, ap, subst, ◌∙◌}
use Prim.Native.Nat.{ℕ, suc, ◌+◌, ◌-◌, ◌*◌, ◌^◌, ◌<◌, ◌≤◌, ◌/◌, ◌%◌}
use native.Mathlib.Omega.{arith}
use native.Mathlib.Nat.{mul-le-mul_right, le_trans, le-add_right, lt_of_lt_of_le}
use Rattle.amount.specs.Amounts.{limit}
use Rattle.amount.specs.Value.{from_words, value, Worth}
use Rattle.amount.specs.declared.Amount.{Amount}

-- `omega` takes no number as large as `limit`. These two lemmas are the only ones that meet it, as 2^64 times 2^64.
pub below : (x y : ℕ) → x < 2 ^ 64 → y < 2 ^ 64 → from_words x y < limit
unfolding from_words
below x y h g = lt_of_lt_of_le (next x y h) (mul-le-mul_right (2 ^ 64) g)
  where
    next : (x y : ℕ) → x < 2 ^ 64 → y * 2 ^ 64 + x < suc y * 2 ^ 64
    next x y h = omega arith

pub over : (x y n : ℕ) → 2 ^ 64 ≤ y → from_words x y ≡ n → limit ≤ n
unfolding from_words
over x y n h e = subst (λ (k : ℕ). limit ≤ k) e (le_trans (mul-le-mul_right (2 ^ 64) h) (le-add_right (y * 2 ^ 64) x))

-- the amount is worth m too, where that is the same number
pub worth : {n m : ℕ} {a : Amount} → Worth n a → n ≡ m → Worth m a
worth w e = record { exact = w.exact ∙ e; below = w.below }

pub low_word : (x : ℕ) → from_words x 0 ≡ x
unfolding from_words
low_word x = omega arith

-- a value has one pair of words, and one amount
pub first_same : (x y x' y' : ℕ) → x < 2 ^ 64 → x' < 2 ^ 64 → from_words x y ≡ from_words x' y' → x ≡ x'
unfolding from_words
first_same x y x' y' h h' e = omega arith

pub second_same : (x y x' y' : ℕ) → x < 2 ^ 64 → x' < 2 ^ 64 → from_words x y ≡ from_words x' y' → y ≡ y'
unfolding from_words
second_same x y x' y' h h' e = omega arith

pub one_amount : (a b : Amount) → a.limb0 < 2 ^ 64 → b.limb0 < 2 ^ 64 → value a ≡ value b → a ≡ b
unfolding value
one_amount a b h h' e = ap (λ (x : ℕ). made x a.limb1) (first_same _ _ _ _ h h' e) ∙ ap (made b.limb0) (second_same _ _ _ _ h h' e)
  where
    made : ℕ → ℕ → Amount
    made x y = record { limb0 = x; limb1 = y }

-- two amounts of which the first has the words a0 and a1, the second b0 and b1
module _ (a0 a1 b0 b1 : ℕ) where
  pub less_high : a0 < 2 ^ 64 → a1 < b1 → from_words a0 a1 < from_words b0 b1
  unfolding from_words
  less_high l h = omega arith

  pub less_low : a1 ≤ b1 → a0 < b0 → from_words a0 a1 < from_words b0 b1
  unfolding from_words
  less_low h l = omega arith

  pub same : b1 ≤ a1 → a1 ≤ b1 → b0 ≤ a0 → a0 ≤ b0 → from_words a0 a1 ≡ from_words b0 b1
  unfolding from_words
  same g g' h h' = omega arith

  pub sum : (word carry : ℕ) → carry * 2 ^ 64 + word ≡ a0 + b0 → from_words word (a1 + b1 + carry) ≡ from_words a0 a1 + from_words b0 b1
  unfolding from_words
  sum word carry e = omega arith

  pub none_left_high : a0 < 2 ^ 64 → a1 < b1 → 0 ≡ from_words a0 a1 - from_words b0 b1
  unfolding from_words
  none_left_high l h = omega arith

  pub none_left_low : b1 ≤ a1 → a1 - b1 ≡ 0 → a0 < b0 → 0 ≡ from_words a0 a1 - from_words b0 b1
  unfolding from_words
  none_left_low g e l = omega arith

  pub left : b1 ≤ a1 → b0 ≤ a0 → from_words (a0 - b0) (a1 - b1) ≡ from_words a0 a1 - from_words b0 b1
  unfolding from_words
  left h l = omega arith

  pub left_borrowing :
      b1 ≤ a1 → (a1 - b1 ≡ 0 → ⊥) → a0 < b0 → b0 < 2 ^ 64 →
      from_words (18446744073709551615 - (b0 - a0) + 1) (a1 - b1 - 1) ≡ from_words a0 a1 - from_words b0 b1
  unfolding from_words
  left_borrowing g ne l h = omega arith

-- what the high words make is too large for a word, or is not
pub too_high : (a b : ℕ) → 18446744073709551615 - a < b → 2 ^ 64 ≤ a + b
too_high a b l = omega arith

pub fits : (a b : ℕ) → a < 2 ^ 64 → b ≤ 18446744073709551615 - a → a + b < 2 ^ 64
fits a b g l = omega arith

-- ten times the words x and y, and a digit d more: p and q are the lower word's two halves, ten times
module _ (x d p q : ℕ) (e : p ≡ x % 4294967296 * 10 + d) (f : q ≡ x / 4294967296 * 10 + p / 4294967296) where
  ten_low : q / 4294967296 * 2 ^ 64 + (q % 4294967296 * 4294967296 + p % 4294967296) ≡ x * 10 + d
  ten_low = omega arith

  pub ten_carry : d < 10 → x < 2 ^ 64 → q / 4294967296 < 10
  ten_carry l h = omega arith

  pub ten : (y : ℕ) → from_words (q % 4294967296 * 4294967296 + p % 4294967296) (y * 10 + q / 4294967296) ≡ from_words x y * 10 + d
  unfolding from_words
  ten y = let g = ten_low in omega (arith, g)

-- .. and with no high word there is none to look after
pub ten_small : (x y d : ℕ) → y ≡ 0 → from_words (x * 10 + d) 0 ≡ from_words x y * 10 + d
unfolding from_words
ten_small x y d e = omega arith

pub ten_over : (y c : ℕ) → c < 10 → (18446744073709551615 - c) / 10 < y → 2 ^ 64 ≤ y * 10 + c
ten_over y c b l = omega arith

pub ten_fits : (y c : ℕ) → c < 10 → y ≤ (18446744073709551615 - c) / 10 → y * 10 + c < 2 ^ 64
ten_fits y c b l = omega arith

pub carry_fits : {c : ℕ} → c < 10 → c ≤ 18446744073709551615
carry_fits l = omega arith

-- a sixteenth of the words x and y
pub sixteen : (x y : ℕ) → from_words x y ≡ from_words (y % 16 * 1152921504606846976 + x / 16) (y / 16) * 16 + x % 16
unfolding from_words
sixteen x y = omega arith

pub sixteen_fits : (x y : ℕ) → x < 2 ^ 64 → y % 16 * 1152921504606846976 + x / 16 < 2 ^ 64
sixteen_fits x y h = omega arith
