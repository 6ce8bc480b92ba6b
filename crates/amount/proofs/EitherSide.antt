-- Document 01, "Either side of a line": the rows on amounts, each computed from the definition of "Amounts".
use Prim.Native.Nat.{ℕ}
use Prim.Native.Char.{code}
use Prim.Native.String.{String, [] as empty, ◌∷◌ as ◌then◌}
use mathlib.Core.Path.{◌≡◌, refl}
use mathlib.Core.List.{List, [], ◌∷◌}
use Rattle.amount.specs.Amounts.{readable, unreadable, all_digits, value_after, of_digits, reading}

-- the bytes of a text of ASCII characters
abbrev pub bytes : String → List ℕ
bytes empty = []
bytes (c then cs) = code c ∷ bytes cs

pub nothing : reading (bytes "") ≡ unreadable
unfolding reading all_digits value_after
nothing = refl

pub plus_seven : reading (bytes "+7") ≡ readable 7
unfolding reading all_digits value_after
plus_seven = refl

pub zero_zero_seven : reading (bytes "007") ≡ readable 7
unfolding reading all_digits value_after
zero_zero_seven = refl

pub minus_zero : reading (bytes "-0") ≡ unreadable
unfolding reading all_digits value_after
minus_zero = refl

pub plus_alone : reading (bytes "+") ≡ unreadable
unfolding reading all_digits value_after
plus_alone = refl

pub largest : reading (bytes "340282366920938463463374607431768211455") ≡ readable 340282366920938463463374607431768211455
unfolding reading all_digits value_after
largest = refl

pub one_more : reading (bytes "340282366920938463463374607431768211456") ≡ unreadable
unfolding reading all_digits value_after
one_more = refl

-- leading zeros are allowed, at any length: one more before a digit changes nothing
pub leading_zero : (d : ℕ) (ds : List ℕ) → of_digits (code "0" ∷ d ∷ ds) ≡ of_digits (d ∷ ds)
unfolding all_digits value_after
leading_zero d ds = refl
