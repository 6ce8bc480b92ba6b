-- Document 01, "Taken from the repository": a hash is 64 lowercase hex characters, held as 32 bytes; byte order equals the Rust's text order. Both are the
-- order of the numbers, over rows of any length. And 32 bytes and a hash's number tell the same.
use Prim.Native.Nat.{ℕ, ◌+◌, ◌*◌, ◌/◌, ◌%◌, ◌^◌, ◌<◌, ◌≤◌}
use mathlib.Core.Bool.{true}
use mathlib.Core.List.{List, [], ◌∷◌, append-nil, map}
use mathlib.Core.Path.{◌≡◌, refl, sym, ◌∙◌, ap}
use native.Mathlib.Nat.{le_of_lt, le_refl, lt_irrefl}
use native.Mathlib.Omega.{arith}
use borrow.Author.Tests.{ltb-true, ltb-false, eqb-true, eqb-false, lt-ltb, le-ltb, eq-eqb, ne_eqb}
use lib.Dec.{eqb, ltb}
use lib.ListN.{length}
use Rattle.hash.specs.Digits.{number_after, digits, Below, before, bytes_number, bytes_of}
use Rattle.hash.specs.Hashes.{limb, join, hex_character, hex_text}
use Rattle.hash.proofs.DigitLaws.{by_bool, number_below, number_digits, digits_number, less_after}
use Rattle.hash.proofs.HashLaws.{Words, below, joined}

-- ---- bytes ----

pub byte_order : (xs ys : List ℕ) → length xs ≡ length ys → Below 256 xs → Below 256 ys → before xs ys ≡ ltb (bytes_number xs) (bytes_number ys)
byte_order xs ys e p q = sym (less_after 256 0 0 xs ys e p q)

-- the 32 bytes of a number of 32 bytes are those bytes
pub bytes_again : (bytes : List ℕ) → length bytes ≡ 32 → Below 256 bytes → bytes_of (bytes_number bytes) ≡ bytes
unfolding bytes_of digits
bytes_again bytes e p =
    let l : 32 ≡ length bytes + 0 = omega arith in
    ap (λ (k : ℕ). digits 256 k (bytes_number bytes) []) l ∙ digits_number 256 0 0 bytes [] (omega arith) p ∙ append-nil bytes

-- and the number of a hash's bytes is the hash's number
pub number_again : (a b c d : ℕ) → Words a b c d → bytes_number (bytes_of (join a b c d)) ≡ join a b c d
unfolding bytes_of
number_again a b c d w =
    let l : join a b c d < (0 + 1) * limb ^ 4 = rw (joined a b c d) (number_below limb 0 (a ∷ b ∷ c ∷ d ∷ []) (below a b c d w)) in
    number_digits 256 32 (join a b c d) [] (omega arith) l

-- ---- text ----

-- the hexadecimal digits of some bytes
nibbles : List ℕ → List ℕ
nibbles [] = []
nibbles (b ∷ bs) = b / 16 ∷ b % 16 ∷ nibbles bs

text : (bs : List ℕ) → hex_text bs ≡ map hex_character (nibbles bs)
unfolding nibbles
text [] = refl
text (b ∷ bs) = ap (λ (l : List ℕ). hex_character (b / 16) ∷ hex_character (b % 16) ∷ l) (text bs)

number_nibbles : (n : ℕ) (bs : List ℕ) → number_after 16 n (nibbles bs) ≡ number_after 256 n bs
unfolding nibbles
number_nibbles n [] = refl
number_nibbles n (b ∷ bs) =
    let e : (n * 16 + b / 16) * 16 + b % 16 ≡ n * 256 + b = omega arith in
    ap (λ (m : ℕ). number_after 16 m (nibbles bs)) e ∙ number_nibbles (n * 256 + b) bs

below_nibbles : (bs : List ℕ) → Below 256 bs → Below 16 (nibbles bs)
unfolding nibbles
below_nibbles [] p = tt
below_nibbles (b ∷ bs) p = let l : b < 256 = p.0 in (omega arith, (omega arith, below_nibbles bs p.1))

length-nibbles : (xs ys : List ℕ) → length xs ≡ length ys → length (nibbles xs) ≡ length (nibbles ys)
unfolding nibbles
length-nibbles [] [] e = refl
length-nibbles [] (y ∷ ys) e = absurd (omega arith)
length-nibbles (x ∷ xs) [] e = absurd (omega arith)
length-nibbles (x ∷ xs) (y ∷ ys) e = let l : length (nibbles xs) ≡ length (nibbles ys) = length-nibbles xs ys (omega arith) in omega arith

-- characters go as their digits: a letter stands after every digit
rises : (x y : ℕ) → y < 16 → x < y → hex_character x < hex_character y
rises x y q h =
    by_bool (ltb y 10) (λ t. let u : ltb x 10 ≡ true = lt-ltb x 10 (omega (arith, ltb-true y 10 t)) in rw (t, u) (omega arith))
    (λ t. by_bool (ltb x 10) (λ u. rw (t, u) (omega (arith, ltb-true x 10 u, ltb-false y 10 t))) (λ u. rw (t, u) (omega (arith, ltb-false x 10 u))))

falls : (x y : ℕ) → x < 16 → y ≤ x → hex_character y ≤ hex_character x
falls x y p h =
    by_bool (eqb x y) (λ t. let e : x ≡ y = eqb-true x y t in rw e (le_refl (hex_character y))) (λ t. le_of_lt (rises y x p (omega (arith, eqb-false x y t))))

less_character : (x y : ℕ) → x < 16 → y < 16 → ltb (hex_character x) (hex_character y) ≡ ltb x y
less_character x y p q =
    by_bool (ltb x y) (λ t. rw t (lt-ltb (hex_character x) (hex_character y) (rises x y q (ltb-true x y t)))) (λ t. rw t (le-ltb (hex_character x) (hex_character y) (falls x y p (ltb-false x y t))))

same_character : (x y : ℕ) → x < 16 → y < 16 → eqb (hex_character x) (hex_character y) ≡ eqb x y
same_character x y p q =
    by_bool (eqb x y) (λ t. rw t (eq-eqb (hex_character x) (hex_character y) (ap hex_character (eqb-true x y t))))
    (λ t. rw t (ne_eqb (hex_character x) (hex_character y)
    (λ e. by_bool (ltb x y) (λ u. let l : hex_character x < hex_character y = rises x y q (ltb-true x y u) in lt_irrefl (hex_character y) (rw e at l)) (λ u. let l : hex_character y < hex_character x = rises y x p (omega (arith, ltb-false x y u, eqb-false x y t)) in lt_irrefl (hex_character y) (rw e at l)))))

before_characters : (xs ys : List ℕ) → Below 16 xs → Below 16 ys → before (map hex_character xs) (map hex_character ys) ≡ before xs ys
before_characters [] ys p q = refl
before_characters (x ∷ xs) [] p q = refl
before_characters (x ∷ xs) (y ∷ ys) p q = rw (less_character x y p.0 q.0, same_character x y p.0 q.0, before_characters xs ys p.1 q.1)

pub text_order : (xs ys : List ℕ) → length xs ≡ length ys → Below 256 xs → Below 256 ys → before (hex_text xs) (hex_text ys) ≡ ltb (bytes_number xs) (bytes_number ys)
text_order xs ys e p q =
    rw (text xs, text ys) (before_characters (nibbles xs) (nibbles ys) (below_nibbles xs p) (below_nibbles ys q) ∙
    sym (less_after 16 0 0 (nibbles xs) (nibbles ys) (length-nibbles xs ys e) (below_nibbles xs p) (below_nibbles ys q)) ∙
    rw (number_nibbles 0 xs, number_nibbles 0 ys))
