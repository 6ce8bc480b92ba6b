-- New room: a free place is filled with a record, and joins the indexes (document 01, "Holding blocks": new room takes the lowest free place).
use Rattle.std.specs.Prelude.{false, List, ◌≡◌, ℕ, ◌+◌, ◌≤◌, ◌<◌, length}
use Rattle.std.proofs.Math.Option.{none, some}
use Rattle.model.specs.Record as model
use Rattle.model.specs.Holding.{free, place_of, free_place, kept, store_of}
use Rattle.block.specs.Records.{header_means, copy_means}
use Rattle.block.specs.declared.Header.{Header}
use Rattle.block.specs.declared.Copy.{Copy}
use Rattle.memory.specs.Words.{word}
use Rattle.memory.specs.Layout.{row, by_hash, by_prev}
use Rattle.index.specs.Keys.{key_at, bucket_of}
use Rattle.index.specs.Writes.{Linked}
use Rattle.contest.specs.Contests.{Updated}
use Rattle.rows.specs.Rows.{cell_at, header_at}
use Rattle.state.specs.View.{view_at}
use Rattle.state.specs.Moves.{Moves, with_cell}
use Rattle.places.specs.Steps.{cell_of}

-- row p holds the record, in the store k alone, with no answer
pub record Fills (m m' : List ℕ) (p k : ℕ) (h : Header) (c : Copy) : Type 0 where
  pub used : word m' (row p) ≡ 1
  pub header : header_at m' (row p + 4) ≡ header_means h
  pub is : k ≤ 2 → cell_at m' p ≡ kept (store_of k) (record { header = header_means h; copy = copy_means c }) free
  pub only : (a : ℕ) → (row p ≤ a → a < row p + 2 → ⊥) → (row p + 4 ≤ a → a < row p + 56 → ⊥) → word m' a ≡ word m a
  pub long : length m' ≡ length m

-- place p is linked by its hash and by its previous hash, and is no longer among the free ones
pub record Joins (m m' : List ℕ) (n p : ℕ) : Type 0 where
  pub mid₁ : List ℕ
  pub mid₂ : List ℕ
  pub hashed : Linked m mid₁ n (by_hash n) (bucket_of n (key_at m 68 false p)) p
  pub named : Linked mid₁ mid₂ n (by_prev n) (bucket_of n (key_at mid₁ 72 false p)) p
  pub taken : Updated n 3 p mid₂ m'

abbrev pub Admits : List ℕ → List ℕ → ℕ → ℕ → ℕ → model.Block → Type 0
Admits m m' n p k b =
    Moves m m' n ((k ≤ 2) × (free_place (view_at m n).holdings ≡ some p) × (place_of (view_at m n).holdings b.header.hash ≡ none)) (with_cell (view_at m n) p (kept (store_of k) b (cell_of m n p)))
