-- Document 01, "Holding blocks": a sync frees room at its end. What that leaves of a memory.
use Rattle.std.specs.Prelude.{List, ◌≡◌, ℕ, ◌+◌, ◌≤◌, ◌<◌, length}
use Rattle.model.specs.Holding.{released}
use Rattle.memory.specs.Words.{word}
use Rattle.memory.specs.Layout.{row, nodes, vacant_at, ring}
use Rattle.state.specs.View.{cells_of}
use Rattle.state.specs.Sound.{SoundAt}

-- of any memory: only words 0 and 2 of rows, the indexes by hash and by previous hash, the contest of free places and the roster of vacant places may change
pub record ReleaseOnly (m m' : List ℕ) (n : ℕ) : Type 0 where
  pub long : length m' ≡ length m
  pub head : (a : ℕ) → a < 64 → (a ≡ 15 → ⊥) → word m' a ≡ word m a
  pub rows : (q k : ℕ) → q < n → 1 ≤ k → k < 68 → (k ≡ 2 → ⊥) → word m' (row q + k) ≡ word m (row q + k)
  pub contests : (a : ℕ) → nodes n 0 ≤ a → a < nodes n 3 → word m' a ≡ word m a
  pub leaves : (a : ℕ) → nodes n 4 ≤ a → a < vacant_at n → word m' a ≡ word m a
  pub journal : (a : ℕ) → ring n ≤ a → word m' a ≡ word m a

-- of a sound one: it stays sound, and a hash that no store holds has no room any more
pub record Releases (m m' : List ℕ) (n : ℕ) : Type 0 where
  pub only : ReleaseOnly m m' n
  pub sound : SoundAt m n → SoundAt m' n
  pub cells : SoundAt m n → cells_of m' n ≡ (λ p. released (cells_of m n p))
