-- Steps of a walk: a walk is one place longer than its parent's, and no longer than the room; what the rows say of the places it comes to.
use mathlib.Core.Path.{◌≡◌, ap}
use mathlib.Core.List.{List, [], ◌∷◌}
use mathlib.Core.Option.{none, some}
use Prim.Native.Nat.{ℕ, suc, ◌+◌, ◌≤◌, ◌<◌}
use native.Mathlib.Omega.{arith}
use lib.ListN.{length}
use Rattle.block.specs.Words.{header_of}
use Rattle.memory.specs.Words.{word}
use Rattle.memory.specs.Layout.{row}
use Rattle.model.specs.Lists.{elem}
use Rattle.model.specs.Holding.{Holdings, index_of}
use Rattle.model.specs.Standing.{parent}
use Rattle.model.specs.Walks.{walk}
use Rattle.model.proofs.Entries.{not_free}
use Rattle.model.proofs.ListLaws.{count-elem}
use Rattle.model.proofs.Sums.{count_below}
use Rattle.model.proofs.Turn.{parent-some}
use Rattle.model.proofs.WalkLaws.{walk_is, walk_once, walk_room}
use Rattle.rows.specs.Rows.{header_at}
use Rattle.state.specs.Sound.{Used}
use Rattle.state.specs.View.{view_at}
use Rattle.state.proofs.FindLaws.{used_is, cell_used}

-- ---- in the model ----

module _ (h : Holdings) where
  pub walk_end : (p : ℕ) → parent h p ≡ none → walk h p ≡ p ∷ []
  walk_end p e = rw e at (walk_is h p)

  pub walk_on : (p q : ℕ) → parent h p ≡ some q → walk h p ≡ p ∷ walk h q
  walk_on p q e = rw e at (walk_is h p)

  pub walk_some : (p : ℕ) → 1 ≤ length (walk h p)
  walk_some p = rw (walk_is h p) (omega arith)

  pub walk_less : (p q : ℕ) → parent h p ≡ some q → length (walk h p) ≡ suc (length (walk h q))
  walk_less p q e = ap length (walk_on p q e)

  -- its places are in the room, each once
  pub walk_most : (p : ℕ) → p < h.room → length (walk h p) ≤ h.room
  walk_most p i = rw (← count-elem (walk h p) h.room (walk_once h p) (λ x e. walk_room h p x i e)) (count_below (λ x. elem x (walk h p)) h.room)

-- ---- in a memory ----

module _ (m : List ℕ) (n : ℕ) where
  pub room_most : (p : ℕ) → p < n → length (walk (view_at m n).holdings p) ≤ n
  unfolding view_at
  room_most p i = walk_most (view_at m n).holdings p i

  pub parent_used : (p q : ℕ) → parent (view_at m n).holdings p ≡ some q → Used m q
  unfolding view_at
  parent_used p q e = let k = parent-some (view_at m n).holdings p q e in (cell_used m n q (not_free ((view_at m n).holdings.cells q) k.1)).1

  pub index_word : (p : ℕ) → p < n → Used m p → index_of ((view_at m n).holdings.cells p) ≡ word m (row p + 12)
  unfolding view_at header_at header_of
  index_word p i u = rw (used_is m n p i u) (ap (word m) (omega arith))
