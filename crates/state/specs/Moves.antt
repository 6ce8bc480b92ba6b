-- What a step of a call promises: a path between states of the model, under what must hold of the state, and that the tree's words stay.
use Rattle.std.specs.Prelude.{List, ◌≡◌, ℕ, ◌+◌, ◌≤◌, ◌<◌, length}
use Rattle.model.specs.Places.{put_at}
use Rattle.model.specs.Holding.{Cell, with_cells}
use Rattle.model.specs.Numbers.{State, Call, number, step}
use Rattle.memory.specs.Words.{word}
use Rattle.memory.specs.Layout.{row, nodes, vacant_at, Laid}
use Rattle.state.specs.View.{view, view_at}
use Rattle.state.specs.Sound.{Sound, SoundAt, Used}

-- What a sync keeps is as it was: words 56 to 67 of every row, headers of places that had room, the contests of the tree, the leaves.
pub record Apart (m m' : List ℕ) (n : ℕ) : Type 0 where
  pub long : length m' ≡ length m
  pub rows : (q k : ℕ) → q < n → 56 ≤ k → k < 68 → word m' (row q + k) ≡ word m (row q + k)
  pub headers : (q k : ℕ) → q < n → Used m q → 4 ≤ k → k < 20 → word m' (row q + k) ≡ word m (row q + k)
  pub used : (q : ℕ) → q < n → Used m q → Used m' q
  pub contests : (a : ℕ) → nodes n 0 ≤ a → a < nodes n 3 → word m' a ≡ word m a
  pub leaves : (a : ℕ) → nodes n 4 ≤ a → a < vacant_at n → word m' a ≡ word m a
  pub leaf_count : word m' 14 ≡ word m 14

-- the memory stands for the state s
pub record Stands (m : List ℕ) (n : ℕ) (s : State) : Type 0 where
  pub sound : SoundAt m n
  pub state : view_at m n ≡ s

-- a step inside of a call: what is left is laid out alike; of a sound memory where P holds it is sound and stands for s
pub record Moves (m m' : List ℕ) (n : ℕ) (P : Type 0) (s : State) : Type 0 where
  pub laid : Laid m' n
  pub right : SoundAt m n → P → Stands m' n s
  pub apart : SoundAt m n → P → Apart m m' n

-- the state with another cell at one place
abbrev pub with_cell : State → ℕ → Cell → State
with_cell s p c = record { holdings = with_cells s.holdings (put_at s.holdings.cells p c); values = s.values; synced = s.synced; fresh = s.fresh }

-- a public call: whatever the memory, a refusal leaves it; of a sound one, the number is the model's, what is left is sound and stands for the
-- model's next state, and what a sync keeps of the tree is as it was
pub record Right (c : Call) (m m' : List ℕ) (r : ℕ) : Type 0 where
  pub number_is : r ≡ number c (view m)
  pub sound : Sound m'
  pub state : view m' ≡ step c (view m)

pub record Done (c : Call) (m m' : List ℕ) (r : ℕ) : Type 0 where
  pub refused : (r ≡ 0 → ⊥) → m' ≡ m
  pub right : Sound m → Right c m m' r
  pub apart : Sound m → Apart m m' (word m 0)
