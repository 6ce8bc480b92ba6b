-- Numbers as rows of digits over any base, the most significant first: bytes, hexadecimal digits and words alike.
use Rattle.std.specs.Prelude.{ℕ, zero, suc, ◌+◌, ◌*◌, ◌/◌, ◌%◌, ◌<◌, Bool, true, false, ◌&&◌, ◌||◌, List, [], ◌∷◌, eqb, ltb}

-- the number of some digits that stand after digits of number n
abbrev pub number_after : ℕ → ℕ → List ℕ → ℕ
number_after base n [] = n
number_after base n (d ∷ ds) = number_after base (n * base + d) ds

-- the last `count` digits of n, with further digits behind them
unfoldable pub digits : ℕ → ℕ → ℕ → List ℕ → List ℕ
digits base zero n ds = ds
digits base (suc count) n ds = digits base count (n / base) (n % base ∷ ds)

-- each of them is a digit
abbrev pub Below : ℕ → List ℕ → Type 0
Below base [] = Unit
Below base (d ∷ ds) = (d < base) × Below base ds

-- the order of two rows of one length, and that they are the same
abbrev pub before : List ℕ → List ℕ → Bool
before [] ys = false
before (x ∷ xs) [] = false
before (x ∷ xs) (y ∷ ys) = ltb x y || eqb x y && before xs ys

abbrev pub alike : List ℕ → List ℕ → Bool
alike [] [] = true
alike [] (y ∷ ys) = false
alike (x ∷ xs) [] = false
alike (x ∷ xs) (y ∷ ys) = eqb x y && alike xs ys

-- bytes, big endian: their number, and the 32 bytes of a number
abbrev pub bytes_number : List ℕ → ℕ
bytes_number bytes = number_after 256 0 bytes

unfoldable pub bytes_of : ℕ → List ℕ
bytes_of n = digits 256 32 n []
