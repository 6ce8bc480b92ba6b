-- Document 01, "Holding blocks": one place whose room is freed.
use Rattle.std.specs.Prelude.{false, List, ◌≡◌, ℕ, ◌≤◌, ◌<◌, length}
use Rattle.model.specs.Places.{put_at}
use Rattle.model.specs.Holding.{free, is_free, is_held, released}
use Rattle.memory.specs.Words.{word}
use Rattle.memory.specs.Layout.{row, by_hash, nodes}
use Rattle.state.specs.View.{cells_of}
use Rattle.state.specs.Sound.{SoundAt}

-- of any memory: only the first word of row p, the indexes by hash and by previous hash and the contest of free places may change
pub record FreeOnly (m m' : List ℕ) (n p : ℕ) : Type 0 where
  pub long : length m' ≡ length m
  pub words : (a : ℕ) → (a ≡ row p → ⊥) → (by_hash n ≤ a → a < nodes n 0 → ⊥) → (nodes n 3 ≤ a → a < nodes n 4 → ⊥) → word m' a ≡ word m a

-- place p becomes free; a sound memory stays sound where p had room for a hash that no store holds
pub record Vacates (m m' : List ℕ) (n p : ℕ) : Type 0 where
  pub only : FreeOnly m m' n p
  pub cells : cells_of m' n ≡ put_at (cells_of m n) p free
  pub sound : SoundAt m n → is_free (cells_of m n p) ≡ false → is_held (cells_of m n p) ≡ false → SoundAt m' n

-- place p is free, or a store holds its hash
pub record Settles (m m' : List ℕ) (n p : ℕ) : Type 0 where
  pub only : FreeOnly m m' n p
  pub cells : cells_of m' n ≡ put_at (cells_of m n) p (released (cells_of m n p))
  pub sound : SoundAt m n → SoundAt m' n
