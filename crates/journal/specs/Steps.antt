-- What the steps of a touch find and leave, for a ring of j slots.
use Rattle.std.specs.Prelude.{ℕ, suc, ◌+◌, ◌*◌, ◌≤◌, ◌<◌, true, List, ◌⊎◌, ◌≡◌, ltb, length}
use Rattle.amount.specs.Choose.{◌if◌else◌}
use Rattle.model.specs.Numbers.{max_word, hash_limit, journal_limit}
use Rattle.block.specs.Words.{quad}
use Rattle.memory.specs.Words.{word, seg, Only}
use Rattle.memory.specs.Layout.{ring, by_touch, need}
use Rattle.index.specs.Keys.{key_at}
use Rattle.index.specs.Index.{Keyed}
use Rattle.journal.specs.Journal.{later_at, Last, Indexed}

-- the memory has room for n hashes and j entries: all that a step needs in order to stay in bounds
pub record Roomy (m : List ℕ) (n j : ℕ) : Type 0 where
  pub few : n ≤ hash_limit
  pub few_j : j ≤ journal_limit
  pub fits : need n j ≤ length m

-- the slot that the next entry goes to
pub record Slot (m : List ℕ) (r : ℕ) : Type 0 where
  pub below : r < word m 1
  pub is : word m 5 < word m 1 → r ≡ word m 5

-- slot e, if there is one, is flagged and no longer in the index
pub record Forgets (m m' : List ℕ) (n j e : ℕ) : Type 0 where
  pub long : length m' ≡ length m
  pub flag : e < j → later_at m' n e ≡ true
  pub only : (i : ℕ) → (e < j → i ≡ ring n + 5 * e + 4 → ⊥) → (by_touch n j ≤ i → i < by_touch n j + 3 * j → ⊥) → word m' i ≡ word m i
  pub index : (e < j → Last m n e) → Indexed m n j → Indexed m' n j

-- the slot whose last touch an entry at `at` overwrites, or j
abbrev pub overwritten_at : List ℕ → ℕ → ℕ → ℕ → ℕ
overwritten_at m n j at = j if ltb (word m 4) j else j if later_at m n at else at

-- an entry stands in slot `at`, and in the index
pub record Enters (m m' : List ℕ) (n j at a b c d : ℕ) : Type 0 where
  pub long : length m' ≡ length m
  pub is : seg m' (ring n + 5 * at) 4 ≡ quad a b c d
  pub flag : word m' (ring n + 5 * at + 4) ≡ 0
  pub only : (i : ℕ) → (ring n + 5 * at ≤ i → i < ring n + 5 * at + 5 → ⊥) → (by_touch n j ≤ i → i < by_touch n j + 3 * j → ⊥) → word m' i ≡ word m i
  pub index : (Last m n at → ⊥) → Indexed m n j → Keyed m' j (by_touch n j) (key_at m' (ring n) true) (λ q. Last m n q ⊎ (q ≡ at))

-- one more version and one more entry, which stands in slot `at` of j
pub record Counted (m m' : List ℕ) (j at : ℕ) : Type 0 where
  pub long : length m' ≡ length m
  pub version : (word m 3 ≡ max_word → ⊥) → word m' 3 ≡ suc (word m 3)
  pub len : word m' 4 ≡ (word m 4 + 1 if ltb (word m 4) j else word m 4)
  pub turn : word m' 5 ≡ (at + 1 if ltb (at + 1) j else 0)
  pub loading : word m' 6 ≡ 0
  pub fresh : word m' 7 ≡ 0
  pub only : Only m m' 3 8
