-- Words of a lent memory, which is a list of numbers, and groups of words. An address past the end holds 0.
use Rattle.std.specs.Prelude.{Bool, ◌&&◌, List, ◌≡◌, ℕ, ◌+◌, ◌≤◌, ◌<◌, length, get_or, set, eqb, ltb}
use Rattle.amount.specs.Choose.{◌if◌else◌}
use Rattle.block.specs.Words.{quad}

-- the word at an address
abbrev pub word : List ℕ → ℕ → ℕ
word m i = get_or m i 0

-- m' is m after a store of v at a: a record, so that its parameters are inferred
pub record Stored (m m' : List ℕ) (a v : ℕ) : Type 0 where
  pub now_is : m' ≡ set m a v

-- from m to m' only words from `lo` up to `hi` changed
abbrev pub Only : List ℕ → List ℕ → ℕ → ℕ → Type 0
Only m m' lo hi = (i : ℕ) → (lo ≤ i → i < hi → ⊥) → word m' i ≡ word m i

-- `len` words from `at` on, as a function that is 0 past them: two groups are equal by `fun_ext`
abbrev pub seg : List ℕ → ℕ → ℕ → ℕ → ℕ
seg m at len i = word m (at + i) if ltb i len else 0

-- four words are written at `at`, and nothing else changes
pub record Four (m m' : List ℕ) (at a b c d : ℕ) : Type 0 where
  pub is : seg m' at 4 ≡ quad a b c d
  pub only : Only m m' at (at + 4)
  pub long : length m' ≡ length m

abbrev pub same_four : (ℕ → ℕ) → (ℕ → ℕ) → Bool
same_four s t = eqb (s 0) (t 0) && eqb (s 1) (t 1) && eqb (s 2) (t 2) && eqb (s 3) (t 3)

-- the words from `from` up to `to` are all v, and nothing else changes
pub record Filled (m m' : List ℕ) (from to v : ℕ) : Type 0 where
  pub is : (i : ℕ) → from ≤ i → i < to → word m' i ≡ v
  pub only : Only m m' from to
  pub long : length m' ≡ length m
