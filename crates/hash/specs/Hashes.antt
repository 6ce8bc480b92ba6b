-- Document 01, "Taken from the repository": a hash is 64 lowercase hex characters, held as 32 bytes; here four words, and one number.
use Prim.Native.Char.{code}
use Rattle.std.specs.Prelude.{ℕ, ◌+◌, ◌-◌, ◌*◌, ◌/◌, ◌%◌, cond, List, [], ◌∷◌, ltb}
use Rattle.hash.specs.declared.Hash.{Hash}

-- 2^64
abbrev pub limb : ℕ
limb = 18446744073709551616

-- the number of four words, the most significant first
abbrev pub join : ℕ → ℕ → ℕ → ℕ → ℕ
join a b c d = ((a * limb + b) * limb + c) * limb + d

abbrev pub hash_number : Hash → ℕ
hash_number h = join h.first h.second h.third h.fourth

-- a hexadecimal digit as a lowercase character
abbrev pub hex_character : ℕ → ℕ
hex_character d = cond (ltb d 10) (code "0" + d) (code "a" + (d - 10))

-- the Rust's text of some bytes: two characters for each
abbrev pub hex_text : List ℕ → List ℕ
hex_text [] = []
hex_text (b ∷ bs) = hex_character (b / 16) ∷ hex_character (b % 16) ∷ hex_text bs
