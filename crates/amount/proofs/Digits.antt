-- Reading from a place on: what is left to read, after one more digit, a plus sign, a byte that is neither, a value that has become
-- too large, and at the end (document 01, "Amounts").
use Prim.Native.Nat.{ℕ, zero, suc, zero-le, ◌+◌, ◌-◌, ◌*◌, ◌<◌, ◌≤◌}
use mathlib.Core.Path.{◌≡◌, refl, sym, ap, ◌∙◌}
use mathlib.Core.Bool.{Bool, true, false, ◌&&◌, ◌||◌}
use mathlib.Core.List.{List, [], ◌∷◌}
use native.Mathlib.Omega.{arith}
use native.Mathlib.Nat.{le_refl, le_trans}
use native.Mathlib.Numerals.{add-one}
use lib.Dec.{ltb}
use lib.ListN.{length, drop, get_or, drop_of_length-le}
use lib.Seq.{drop-cons}
use borrow.Author.Tests.{le-leb, lt-leb, eq-eqb, ne_eqb, lt-ltb, le-ltb}
use Rattle.amount.specs.Choose.{◌if◌else◌}
use Rattle.amount.specs.Amounts.{
  Amount,
  readable,
  unreadable,
  limit,
  is_digit,
  after_plus,
  all_digits,
  one_or_more,
  value_after,
  reading,
}

-- the digits ds after digits of value n; `some` says whether there was one
unfoldable pub more : Bool → ℕ → List ℕ → Amount
more some n ds = readable (value_after n ds) if (some || one_or_more ds) && (all_digits ds && ltb (value_after n ds) limit) else unreadable

-- a plus sign may stand at place 0 only
abbrev pub plus_at : ℕ → List ℕ → List ℕ
plus_at zero bs = after_plus bs
plus_at (suc i) bs = bs

-- what the text is read as, from place i on
abbrev pub onward : Bool → ℕ → ℕ → List ℕ → Amount
onward some n i text = more some n (plus_at i (drop i text))

-- how far the reading has come: it stands before place i, after digits of value n
pub record Progress (text : List ℕ) (some : Bool) (n i : ℕ) : Type 0 where
  pub inside : i ≤ length text
  pub small : n < limit
  pub so_far : reading text ≡ onward some n i text

-- a byte's kind, from its comparisons
digit : (b : ℕ) → 48 ≤ b → b < 58 → is_digit b ≡ true
digit b l h = simp (le-leb 48 b l, le-leb b 57 (omega arith))

low : (b : ℕ) → b < 48 → is_digit b ≡ false
low b h = simp (lt-leb 48 b h)

high : (b : ℕ) → 58 ≤ b → is_digit b ≡ false
high b h = simp (le-leb 48 b (omega arith), lt-leb b 57 (omega arith))

more_digit : (some : Bool) (n b : ℕ) (bs : List ℕ) → is_digit b ≡ true → more some n (b ∷ bs) ≡ more true (n * 10 + (b - 48)) bs
unfolding more all_digits value_after
more_digit true n b bs e = rw e
more_digit false n b bs e = rw e

more_other : (some : Bool) (n b : ℕ) (bs : List ℕ) → is_digit b ≡ false → more some n (b ∷ bs) ≡ unreadable
unfolding more all_digits
more_other true n b bs e = rw e
more_other false n b bs e = rw e

-- digits never make a value less
grows : (n : ℕ) (ds : List ℕ) → n ≤ value_after n ds
unfolding value_after
grows n [] = le_refl n
grows n (b ∷ bs) = le_trans (step n (b - 48)) (grows (n * 10 + (b - 48)) bs)
  where
    step : (n d : ℕ) → n ≤ n * 10 + d
    step n d = omega arith

-- so once it is too large it stays so
more_too_large : (some : Bool) (n : ℕ) (ds : List ℕ) → limit ≤ n → more some n ds ≡ unreadable
unfolding more
more_too_large some n ds h = rw (le-ltb (value_after n ds) limit (le_trans h (grows n ds))) (none _ (some || one_or_more ds) (all_digits ds))
  where
    none : (x : Amount) (s t : Bool) → (x if s && (t && false) else unreadable) ≡ unreadable
    none x true true = refl
    none x true false = refl
    none x false t = refl

-- a plus sign has no place but the first, and at no place is another byte one
past : (i : ℕ) (bs : List ℕ) → plus_at (i + 1) bs ≡ bs
past i bs = rw add-one

later : (i : ℕ) (bs : List ℕ) → (i ≡ 0 → ⊥) → plus_at i bs ≡ bs
later zero bs ne = absurd (ne refl)
later (suc i) bs ne = refl

no_plus : (i b : ℕ) (bs : List ℕ) → (b ≡ 43 → ⊥) → plus_at i (b ∷ bs) ≡ b ∷ bs
no_plus zero b bs ne = rw (ne_eqb b 43 ne)
no_plus (suc i) b bs ne = refl

pub start : (text : List ℕ) (n : ℕ) → n ≡ 0 → n < limit → Progress text false n 0
unfolding reading more
start text n e l = record { inside = zero-le; small = l; so_far = rw e }

at_end : (some : Bool) (n i : ℕ) (text : List ℕ) → length text ≤ i → onward some n i text ≡ more some n []
at_end some n i text l = rw (drop_of_length-le text l) (ap (more some n) (nothing i))
  where
    nothing : (i : ℕ) → plus_at i [] ≡ []
    nothing zero = refl
    nothing (suc i) = refl

module _ (text : List ℕ) (some : Bool) (n i : ℕ) (p : Progress text some n i) where
  -- at the byte at i
  module _ (l : i < length text) where
    here : reading text ≡ more some n (plus_at i (get_or text i 0 ∷ drop (i + 1) text))
    here = p.so_far ∙ rw (add-one, ← drop-cons text i 0)

    other : is_digit (get_or text i 0) ≡ false → (get_or text i 0 ≡ 43 → ⊥) → unreadable ≡ reading text
    other e ne = sym (here ∙ ap (more some n) (no_plus i _ _ ne) ∙ more_other some n _ _ e)

    pub low_byte : get_or text i 0 < 48 → (get_or text i 0 ≡ 43 → ⊥) → unreadable ≡ reading text
    low_byte h = other (low _ h)

    pub high_byte : 58 ≤ get_or text i 0 → unreadable ≡ reading text
    high_byte h = other (high _ h) (λ e. omega arith)

    pub late_plus : get_or text i 0 ≡ 43 → (i ≡ 0 → ⊥) → unreadable ≡ reading text
    late_plus e ne = sym (here ∙ ap (more some n) (later i _ ne) ∙ more_other some n _ _ (low (get_or text i 0) (omega arith)))

    pub first_plus : get_or text i 0 ≡ 43 → i ≡ 0 → Progress text some n (i + 1)
    first_plus e z = record {
      inside = omega arith;
      small = p.small;
      so_far = here ∙ rw (z, eq-eqb (get_or text 0 0) 43 (rw z at e));
    }

    -- a digit, after which the value is m
    module _ (h : 48 ≤ get_or text i 0) (h' : get_or text i 0 < 58) where
      one_more : reading text ≡ more true (n * 10 + (get_or text i 0 - 48)) (drop (i + 1) text)
      one_more = here ∙ ap (more some n) (no_plus i _ _ (λ e. omega arith)) ∙ more_digit some n _ _ (digit _ h h')

      pub one_digit : (m : ℕ) → m ≡ n * 10 + (get_or text i 0 - 48) → m < limit → Progress text true m (i + 1)
      one_digit m e s = record { inside = omega arith; small = s; so_far = rw (past, e) one_more }

      pub too_large : limit ≤ n * 10 + (get_or text i 0 - 48) → unreadable ≡ reading text
      too_large o = sym (one_more ∙ more_too_large true _ _ o)

  -- at the end of the text, after a digit or after none
  pub ended : some ≡ true → length text ≤ i → readable n ≡ reading text
  unfolding more all_digits value_after
  ended e l = sym (p.so_far ∙ at_end some n i text l ∙ rw (e, lt-ltb n limit p.small))

  pub ended_empty : some ≡ false → length text ≤ i → unreadable ≡ reading text
  unfolding more
  ended_empty e l = sym (p.so_far ∙ at_end some n i text l ∙ rw e)
