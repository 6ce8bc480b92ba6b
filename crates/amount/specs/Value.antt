-- What an amount of two words is worth, and what the crate's functions promise in terms of that value alone (document 01, "Amounts"
-- and "Port order"). Nothing above this crate opens `from_words` or `value`.
use Rattle.std.specs.Prelude.{ℕ, ◌+◌, ◌*◌, ◌^◌, ◌<◌, ◌≤◌, ◌≡◌, Bool, true, false}
use Rattle.amount.specs.Amounts.{Amount as Meaning, readable, unreadable, limit}
use Rattle.amount.specs.declared.Amount.{Amount}
use Rattle.amount.specs.declared.Split.{Split}
use Rattle.amount.specs.declared.Reading.{Reading}
use Rattle.amount.specs.declared.Reading.TheVariants.{Readable, Unreadable}
use Rattle.amount.specs.declared.Sum.{Sum}
use Rattle.amount.specs.declared.Sum.TheVariants.{Fits, TooLarge}
use Rattle.amount.specs.declared.Order.{Order}
use Rattle.amount.specs.declared.Order.TheVariants.{Less, Equal, Greater}

-- the value of the two words that stand for an amount in a memory
unfoldable pub from_words : ℕ → ℕ → ℕ
from_words x y = y * 2 ^ 64 + x

unfoldable pub value : Amount → ℕ
value a = from_words a.limb0 a.limb1

-- the amount is worth n
pub record Worth (n : ℕ) (a : Amount) : Type 0 where
  pub exact : value a ≡ n
  pub below : value a < limit

-- a sum is the amount of that value, or too large where there is none
abbrev pub Added : ℕ → Sum → Type 0
Added n (Fits a) = Worth n a
Added n TooLarge = limit ≤ n

abbrev pub is_fits : Sum → Bool
is_fits (Fits a) = true
is_fits TooLarge = false

-- how the first of two values stands to the second
abbrev pub Ordered : ℕ → ℕ → Order → Type 0
Ordered x y Less = x < y
Ordered x y Equal = x ≡ y
Ordered x y Greater = y < x

abbrev pub is_less : Order → Bool
is_less Less = true
is_less Equal = false
is_less Greater = false

abbrev pub is_equal : Order → Bool
is_equal Less = false
is_equal Equal = true
is_equal Greater = false

abbrev pub is_greater : Order → Bool
is_greater Less = false
is_greater Equal = false
is_greater Greater = true

-- what was read, in document 01's terms
abbrev pub meant : Reading → Meaning
meant (Readable a) = readable (value a)
meant Unreadable = unreadable

-- a value's last hexadecimal digit, and the value of the digits before it
pub record Sixteenths (n : ℕ) (s : Split) : Type 0 where
  pub exact : n ≡ value s.rest * 16 + s.digit
  pub small : s.digit < 16
  pub below : value s.rest < limit
