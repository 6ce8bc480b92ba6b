-- Keys: four words of each slot, and the bucket of a key.
use Rattle.std.specs.Prelude.{Bool, true, false, List, ◌≡◌, ℕ, ◌+◌, ◌<◌, ◌%◌}
use Rattle.memory.specs.Words.{seg}
use Rattle.memory.specs.Layout.{strided}

-- the key of slot x, where the key of slot 0 stands at `keys`
abbrev pub key_at : List ℕ → ℕ → Bool → ℕ → ℕ → ℕ
key_at m keys entries x = seg m (keys + strided entries x) 4

-- the bucket of a key: its last word, modulo the number of slots
abbrev pub bucket_of : ℕ → (ℕ → ℕ) → ℕ
bucket_of s k = k 3 % s

pub record Bucketed (d s r : ℕ) : Type 0 where
  pub is : r ≡ d % s
  pub below : r < s

-- the answer r of a test for P
abbrev pub Tests : Bool → Type 0 → Type 0
Tests true P = P
Tests false P = P → ⊥
