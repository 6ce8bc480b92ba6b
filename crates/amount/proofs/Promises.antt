-- What callers make of this crate's promises: the two directions of a reading, tests of an order and of a sum, and words in a memory
-- (document 01, "Amounts" and "Port order"). No law here shows a limb.
use Prim.Native.Nat.{ℕ, ◌<◌, ◌^◌}
use mathlib.Core.Path.{◌≡◌, refl, sym, ap, ◌∙◌}
use mathlib.Core.Bool.{Bool, true, false, not, ◌&&◌}
use mathlib.Core.List.{List}
use native.Mathlib.Nat.{le_of_lt, le_of_eq}
use native.Mathlib.Omega.{arith}
use lib.Dec.{eqb, ltb, leb}
use borrow.Author.Tests.{lt-ltb, le-ltb, le-leb, lt-leb, eq-eqb, ne_eqb, ltb-true}
use Rattle.amount.specs.Choose.{◌if◌else◌}
use Rattle.amount.specs.Amounts.{readable, unreadable, limit, one_or_more, all_digits, value_after, after_plus, reading}
use Rattle.amount.specs.Value.{value, from_words, Worth, Added, Ordered, meant, is_fits, is_less, is_equal, is_greater}
use Rattle.amount.specs.declared.Amount.{Amount}
use Rattle.amount.specs.declared.Reading.{Reading}
use Rattle.amount.specs.declared.Reading.TheVariants.{Readable, Unreadable}
use Rattle.amount.specs.declared.Sum.{Sum}
use Rattle.amount.specs.declared.Sum.TheVariants.{Fits, TooLarge}
use Rattle.amount.specs.declared.Order.{Order}
use Rattle.amount.specs.declared.Order.TheVariants.{Less, Equal, Greater}
use Rattle.amount.proofs.Limbs as limbs

never : (n : ℕ) → unreadable ≡ readable n → ⊥
never n e = let z : ◌≡◌ {A = ℕ} 0 1 = cc in omega arith

-- every value that a text has is below the limit
pub reading_below : (text : List ℕ) (n : ℕ) → reading text ≡ readable n → n < limit
unfolding reading
reading_below text n e = chosen (value_after 0 (after_plus text)) (one_or_more (after_plus text)) (all_digits (after_plus text)) _ refl e
  where
    chosen : (v : ℕ) (s t u : Bool) → ltb v limit ≡ u → (readable v if s && (t && u) else unreadable) ≡ readable n → n < limit
    chosen v true true true l e = let same : v ≡ n = cc in rw same at (ltb-true v limit l)
    chosen v true true false l e = absurd (never n e)
    chosen v true false u l e = absurd (never n e)
    chosen v false t u l e = absurd (never n e)

-- of what `read` answers on a text
module _ (text : List ℕ) (r : Reading) (p : meant r ≡ reading text) where
  -- what is accepted has that value,
  pub accepted : (a : Amount) → r ≡ Readable a → reading text ≡ readable (value a)
  accepted a e = sym p ∙ ap meant e

  pub accepted_below : (a : Amount) → r ≡ Readable a → value a < limit
  accepted_below a e = reading_below text (value a) (accepted a e)

  -- what has a value is accepted,
  pub not_refused : (n : ℕ) → reading text ≡ readable n → (a : Amount) × (r ≡ Readable a) × (value a ≡ n)
  not_refused n e = by_case r (p ∙ e)
    where
      by_case : (r : Reading) → meant r ≡ readable n → (a : Amount) × (r ≡ Readable a) × (value a ≡ n)
      by_case (Readable a) q = (a, refl, cc)
      by_case Unreadable q = absurd (never n q)

  -- and what is refused has none
  pub refused : r ≡ Unreadable → reading text ≡ unreadable
  refused e = sym p ∙ ap meant e

-- the tests of two numbers, of which the first is less, equal or greater
pub record Tests (x y : ℕ) (less equal greater : Bool) : Type 0 where
  pub less_is : ltb x y ≡ less
  pub equal_is : eqb x y ≡ equal
  pub greater_is : ltb y x ≡ greater
  pub at_most_is : leb x y ≡ not greater
  pub at_least_is : leb y x ≡ not less

-- what `compare` answers, as tests
pub tests : (x y : ℕ) (r : Order) → Ordered x y r → Tests x y (is_less r) (is_equal r) (is_greater r)
tests x y Less h = record {
  less_is = lt-ltb x y h;
  equal_is = ne_eqb x y (λ e. omega arith);
  greater_is = le-ltb y x (le_of_lt h);
  at_most_is = le-leb x y (le_of_lt h);
  at_least_is = lt-leb y x h;
}
tests x y Equal e = record {
  less_is = le-ltb x y (le_of_eq (sym e));
  equal_is = eq-eqb x y e;
  greater_is = le-ltb y x (le_of_eq e);
  at_most_is = le-leb x y (le_of_eq e);
  at_least_is = le-leb y x (le_of_eq (sym e));
}
tests x y Greater h = record {
  less_is = le-ltb x y (le_of_lt h);
  equal_is = ne_eqb x y (λ e. omega arith);
  greater_is = lt-ltb y x h;
  at_most_is = lt-leb x y h;
  at_least_is = le-leb y x (le_of_lt h);
}

-- the same in each arm of a `match` on the answer
module _ (x y : ℕ) {r : Order} (p : Ordered x y r) where
  pub on_less : r ≡ Less → Tests x y true false false
  on_less e = tests x y Less (rw e at p)

  pub on_equal : r ≡ Equal → Tests x y false true false
  on_equal e = tests x y Equal (rw e at p)

  pub on_greater : r ≡ Greater → Tests x y false false true
  on_greater e = tests x y Greater (rw e at p)

-- an order has one answer
pub one_order : (x y : ℕ) (r s : Order) → Ordered x y r → Ordered x y s → r ≡ s
one_order x y Less Less p q = refl
one_order x y Less Equal p q = absurd (omega arith)
one_order x y Less Greater p q = absurd (omega arith)
one_order x y Equal Less p q = absurd (omega arith)
one_order x y Equal Equal p q = refl
one_order x y Equal Greater p q = absurd (omega arith)
one_order x y Greater Less p q = absurd (omega arith)
one_order x y Greater Equal p q = absurd (omega arith)
one_order x y Greater Greater p q = refl

-- a sum fits exactly if it is below the limit
pub fits_is : (n : ℕ) (r : Sum) → Added n r → ltb n limit ≡ is_fits r
fits_is n (Fits a) w = lt-ltb n limit (rw w.exact at w.below)
fits_is n TooLarge h = le-ltb n limit h

-- and in each arm of a `match` on it
pub on_fits : (n : ℕ) {r : Sum} {a : Amount} → Added n r → r ≡ Fits a → (value a ≡ n) × (ltb n limit ≡ true)
on_fits n {r} {a} p e = let w : Worth n a = rw e at p in (w.exact, fits_is n (Fits a) w)

pub on_too_large : (n : ℕ) {r : Sum} → Added n r → r ≡ TooLarge → ltb n limit ≡ false
on_too_large n p e = fits_is n TooLarge (rw e at p)

-- two words of a memory make a value below the limit, and no other two make the same
pub words_below : (x y : ℕ) → x < 2 ^ 64 → y < 2 ^ 64 → from_words x y < limit
words_below = limbs.below

pub words_same : (x y x' y' : ℕ) → x < 2 ^ 64 → x' < 2 ^ 64 → from_words x y ≡ from_words x' y' → (x ≡ x') × (y ≡ y')
words_same x y x' y' h h' e = (limbs.first_same x y x' y' h h' e, limbs.second_same x y x' y' h h' e)
