-- What a sync writes before it frees room: the tree's words, which are words 3 and 56 to 67 of the rows, the contests but that of free
-- places, and the leaves with their number. Outside of them all is as it was.
use Rattle.std.specs.Prelude.{List, ◌≡◌, ℕ, ◌+◌, ◌≤◌, ◌<◌, length}
use Rattle.memory.specs.Words.{word}
use Rattle.memory.specs.Layout.{row, by_hash, nodes, vacant_at}

pub record TreeOnly (m m' : List ℕ) (n : ℕ) : Type 0 where
  pub long : length m' ≡ length m
  pub head : (a : ℕ) → a < 64 → (a ≡ 14 → ⊥) → word m' a ≡ word m a
  pub rows : (q k : ℕ) → q < n → k < 56 → (k ≡ 3 → ⊥) → word m' (row q + k) ≡ word m (row q + k)
  pub indexes : (a : ℕ) → by_hash n ≤ a → a < nodes n 0 → word m' a ≡ word m a
  pub free : (a : ℕ) → nodes n 3 ≤ a → a < nodes n 4 → word m' a ≡ word m a
  pub rest : (a : ℕ) → vacant_at n ≤ a → word m' a ≡ word m a
