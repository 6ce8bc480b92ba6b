-- Document 01, "The two plans": what the core of a plan leaves: its changes as codes, by place. The state that the memory stands for is as it was.
use Rattle.std.specs.Prelude.{List, [], ◌≡◌, ℕ, ◌+◌, ◌≤◌, ◌<◌, ℤ, length}
use Rattle.model.specs.Record.{Reason}
use Rattle.model.specs.Writes.{Write, Plan, scan, apply}
use Rattle.memory.specs.Words.{word}
use Rattle.memory.specs.Layout.{row, by_hash, nodes}
use Rattle.state.specs.View.{view_at}
use Rattle.writing.specs.Coded.{Coded}
use Rattle.writing.specs.Meant.{Meant}

-- words 3, 59 and 65 of rows, and the nodes of the contest of turns, may change, nothing else
pub record PlanOnly (m m' : List ℕ) (n : ℕ) : Type 0 where
  pub long : length m' ≡ length m
  pub head : (a : ℕ) → a < 64 → word m' a ≡ word m a
  pub rows : (q k : ℕ) → q < n → k < 68 → (k ≡ 3 → ⊥) → (k ≡ 59 → ⊥) → (k ≡ 65 → ⊥) → word m' (row q + k) ≡ word m (row q + k)
  pub before : (a : ℕ) → by_hash n ≤ a → a < nodes n 2 → word m' a ≡ word m a
  pub after : (a : ℕ) → nodes n 3 ≤ a → word m' a ≡ word m a

abbrev pub writes_of : Plan → List Write
writes_of scan = []
writes_of (apply k ws) = ws

-- the plan p stands in the memory, by the clock and the comparison's reason
pub record Planned (p : Plan) (m m' : List ℕ) (n : ℕ) (clock : ℤ) (reason : Reason) : Type 0 where
  pub codes : ℕ → ℕ
  pub coded : Coded m' n codes
  pub meant : Meant (view_at m n).holdings clock reason (writes_of p) codes
