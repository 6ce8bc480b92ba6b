-- What the steps at a place promise (document 01, "Holding blocks").
use Rattle.std.specs.Prelude.{false, List, ◌≡◌, ℕ, ◌≤◌}
use Rattle.model.specs.Record as model
use Rattle.model.specs.Holding.{Cell, is_free, kept, dropped, answered, store_of, answer_of}
use Rattle.state.specs.View.{view_at}
use Rattle.state.specs.Moves.{Moves, with_cell}

abbrev pub cell_of : List ℕ → ℕ → ℕ → Cell
cell_of m n p = (view_at m n).holdings.cells p

-- the copy of the block goes into its store, at a place that has room
abbrev pub Replaces : List ℕ → List ℕ → ℕ → ℕ → ℕ → model.Block → Type 0
Replaces m m' n p k b = Moves m m' n ((k ≤ 2) × (is_free (cell_of m n p) ≡ false)) (with_cell (view_at m n) p (kept (store_of k) b (cell_of m n p)))

-- the copy goes out of its store
abbrev pub TakesOut : List ℕ → List ℕ → ℕ → ℕ → ℕ → Type 0
TakesOut m m' n p k = Moves m m' n ((k ≤ 2) × (is_free (cell_of m n p) ≡ false)) (with_cell (view_at m n) p (dropped (store_of k) (cell_of m n p)))

-- the answer stands
abbrev pub Marks : List ℕ → List ℕ → ℕ → ℕ → ℕ → Type 0
Marks m m' n p a = Moves m m' n (is_free (cell_of m n p) ≡ false) (with_cell (view_at m n) p (answered (answer_of a) (cell_of m n p)))
