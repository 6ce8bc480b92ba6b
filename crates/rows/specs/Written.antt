-- What the functions of a row leave or answer.
use Rattle.std.specs.Prelude.{List, ◌≡◌, ℕ, ◌+◌, ◌<◌, length}
use Rattle.std.proofs.Math.Option.{none, some}
use Rattle.model.specs.Holding.{effective}
use Rattle.block.specs.Records.{header_means, copy_means}
use Rattle.block.specs.Telling.{HeaderTold, CopyTold}
use Rattle.block.specs.declared.Header.{Header}
use Rattle.block.specs.declared.Copy.{Copy}
use Rattle.memory.specs.Words.{word, seg, Only}
use Rattle.rows.specs.Rows.{header_at, copy_at, held_at}

-- the header stands in the 16 words from `at` on, each of them told
pub record Headed (m m' : List ℕ) (at : ℕ) (h : Header) : Type 0 where
  pub is : header_at m' at ≡ header_means h
  pub told : HeaderTold (header_means h) (seg m' at 4) (seg m' (at + 4) 4) (seg m' (at + 8) 4) (seg m' (at + 12) 4)
  pub only : Only m m' at (at + 16)
  pub long : length m' ≡ length m

-- the copy stands in the 12 words from `at` on, each of them told
pub record Copied (m m' : List ℕ) (at : ℕ) (c : Copy) : Type 0 where
  pub is : copy_at m' at ≡ some (copy_means c)
  pub told : CopyTold (copy_means c) (seg m' at 4) (seg m' (at + 4) 4) (seg m' (at + 8) 4)
  pub only : Only m m' at (at + 12)
  pub long : length m' ≡ length m

-- no copy stands there
pub record Dropped (m m' : List ℕ) (at : ℕ) : Type 0 where
  pub is : copy_at m' at ≡ none
  pub only : Only m m' at (at + 1)
  pub long : length m' ≡ length m

-- the row that begins at `at` is used, with no answer and no copy; its words from 2 on are as they were but for the copies' state words
pub record Opened (m m' : List ℕ) (at : ℕ) : Type 0 where
  pub used : word m' at ≡ 1
  pub answer : word m' (at + 1) ≡ 1
  pub active : copy_at m' (at + 20) ≡ none
  pub forks : copy_at m' (at + 32) ≡ none
  pub canon : copy_at m' (at + 44) ≡ none
  pub only : (a : ℕ) → (a ≡ at → ⊥) → (a ≡ at + 1 → ⊥) → (a ≡ at + 20 → ⊥) → (a ≡ at + 32 → ⊥) → (a ≡ at + 44 → ⊥) → word m' a ≡ word m a
  pub long : length m' ≡ length m

-- where the effective copy of the row that begins at `at` stands
pub record Stands (m : List ℕ) (at r : ℕ) : Type 0 where
  pub is : effective (held_at m at) ≡ copy_at m r
  pub fits : r + 12 < at + 57
