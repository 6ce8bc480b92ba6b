-- Document 01, "The two plans": walks through parents, as the plans read and note them. A walk is noted in word 65 of the rows: row d holds the place at distance d
-- from the top. Nothing else reads those words, and nothing is asked of them between calls.
use Rattle.std.specs.Prelude.{List, ◌≡◌, ℕ, ◌+◌, ◌≤◌, ◌<◌, length, get_or}
use Rattle.model.specs.Walks.{walk}
use Rattle.memory.specs.Words.{word}
use Rattle.memory.specs.Layout.{row}
use Rattle.state.specs.View.{view_at}

-- only word 65 of rows may change
pub record LineOnly (m m' : List ℕ) (n : ℕ) : Type 0 where
  pub long : length m' ≡ length m
  pub only : (a : ℕ) → ((q : ℕ) → q < n → a ≡ row q + 65 → ⊥) → word m' a ≡ word m a

-- the walk from the top is noted, and k is its length
pub record Lined (m : List ℕ) (n top k : ℕ) : Type 0 where
  pub long : k ≡ length (walk (view_at m n).holdings top)
  pub short : k ≤ n
  pub at : (d : ℕ) → d < k → word m (row d + 65) ≡ get_or (walk (view_at m n).holdings top) d 0
