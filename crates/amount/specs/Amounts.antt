-- Document 01, "Amounts", over the bytes of a text. It is the published rule of Rust's `u128::from_str`.
use Rattle.std.specs.Prelude.{ℕ, ◌+◌, ◌-◌, ◌*◌, Bool, true, false, ◌&&◌, List, [], ◌∷◌, eqb, leb, ltb}
use Prim.Native.Char.{code}
use Rattle.amount.specs.Choose.{◌if◌else◌}

-- a value, or what is kept as an unreadable amount
pub data Amount : Type 0 where
  readable : ℕ → Amount
  unreadable : Amount

-- 2^128, one more than the greatest value
abbrev pub limit : ℕ
limit = 340282366920938463463374607431768211456

-- one optional plus sign,
abbrev pub is_plus : ℕ → Bool
is_plus b = eqb b (code "+")

abbrev pub after_plus : List ℕ → List ℕ
after_plus [] = []
after_plus (b ∷ bs) = bs if is_plus b else b ∷ bs

-- then one or more digits,
abbrev pub is_digit : ℕ → Bool
is_digit b = leb (code "0") b && leb b (code "9")

unfoldable pub all_digits : List ℕ → Bool
all_digits [] = true
all_digits (b ∷ bs) = is_digit b && all_digits bs

abbrev pub one_or_more : List ℕ → Bool
one_or_more [] = false
one_or_more (b ∷ bs) = true

-- with a value: that of some digits which stand after digits of value n
unfoldable pub value_after : ℕ → List ℕ → ℕ
value_after n [] = n
value_after n (b ∷ bs) = value_after (n * 10 + (b - code "0")) bs

-- of at most 2^128 - 1. Leading zeros are allowed, at any length: the value is bounded, and not the number of digits.
abbrev pub of_digits : List ℕ → Amount
of_digits ds = readable (value_after 0 ds) if one_or_more ds && (all_digits ds && ltb (value_after 0 ds) limit) else unreadable

-- All else is kept as an unreadable amount.
unfoldable pub reading : List ℕ → Amount
reading text = of_digits (after_plus text)

-- Two texts with one value, or two unreadable ones, make the same header.
abbrev pub same_amount : Amount → Amount → Bool
same_amount (readable a) (readable b) = eqb a b
same_amount (readable a) unreadable = false
same_amount unreadable (readable b) = false
same_amount unreadable unreadable = true
