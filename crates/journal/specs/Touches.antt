-- Document 01, "Holding blocks": what a touch and an emptying leave of a memory. The frames hold of any memory.
use Rattle.std.specs.Prelude.{ℕ, suc, ◌+◌, ◌*◌, ◌≤◌, ◌<◌, List, [], ◌∷◌, ◌≡◌, length, take}
use Rattle.model.specs.Numbers.{max_word}
use Rattle.memory.specs.Words.{word}
use Rattle.memory.specs.Layout.{ring, by_touch}
use Rattle.journal.specs.Journal.{journal_of, Journaled}

-- a touch of the hash x: one more version, one more entry, loading closed, no longer fresh. (Where a touch is due at the last version
-- the call is refused.)
pub record Touches (m m' : List ℕ) (n x : ℕ) : Type 0 where
  pub long : length m' ≡ length m
  pub only : (i : ℕ) → (3 ≤ i → i < 8 → ⊥) → (ring n ≤ i → i < by_touch n (word m 1) + 3 * word m 1 → ⊥) → word m' i ≡ word m i
  pub version : (word m 3 ≡ max_word → ⊥) → word m' 3 ≡ suc (word m 3)
  pub loading : word m' 6 ≡ 0
  pub fresh : word m' 7 ≡ 0
  pub journaled : Journaled m n → Journaled m' n
  pub journal : Journaled m n → journal_of m' n ≡ take (word m 1) (x ∷ journal_of m n)

-- the journal is empty
pub record Clears (m m' : List ℕ) (n : ℕ) : Type 0 where
  pub long : length m' ≡ length m
  pub only : (i : ℕ) → (4 ≤ i → i < 6 → ⊥) → (by_touch n (word m 1) ≤ i → i < by_touch n (word m 1) + 3 * word m 1 → ⊥) → word m' i ≡ word m i
  pub journaled : Journaled m' n
  pub journal : journal_of m' n ≡ []
