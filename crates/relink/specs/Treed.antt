-- What a sync keeps of the tree, between calls and between its own turns (document 01, "Standing in the tree"): the contests for both bests, the
-- linked children and leaves, and that a linked place knows the place of its parent. What is pending has a record of its own, in crate pending.
use Rattle.std.specs.Prelude.{true, false, List, ◌≡◌, ℕ, ◌+◌, ◌≤◌, ◌<◌, length}
use Rattle.model.specs.Holding.{index_of}
use Rattle.model.specs.Standing.{names}
use Rattle.memory.specs.Words.{word}
use Rattle.memory.specs.Layout.{row, nodes, leaves_at, vacant_at}
use Rattle.contest.specs.Tree.{WF}
use Rattle.contest.specs.Keys.{enters}
use Rattle.contest.specs.Contests as contest
use Rattle.state.specs.View.{cells_of}
use Rattle.state.specs.Sound.{Used}
use Rattle.kin.specs.Kin.{linked_at, up_at, Kin}

-- the place of the parent is that of the block named, whose index is one less; with none, the index is 0
pub record Above (m : List ℕ) (n p : ℕ) : Type 0 where
  pub named : up_at m p < n → names (cells_of m n p) (cells_of m n (up_at m p)) ≡ true
  pub root : n ≤ up_at m p → index_of (cells_of m n p) ≡ 0

-- the contest of listed leaves is empty
pub record Listless (m : List ℕ) (n : ℕ) : Type 0 where
  pub tree : WF n (contest.view m n 4)
  pub none : (q : ℕ) → q < n → enters m 4 q ≡ false

pub record Treed (m : List ℕ) (n : ℕ) : Type 0 where
  pub winners : WF n (contest.view m n 0)
  pub canonicals : WF n (contest.view m n 1)
  pub kin : Kin m n
  pub linked : (p : ℕ) → p < n → linked_at m p ≡ true → Used m p
  pub canonical : (p : ℕ) → p < n → enters m 1 p ≡ true → Used m p
  pub above : (p : ℕ) → p < n → linked_at m p ≡ true → Above m n p
  pub listless : Listless m n

-- what that is read off is as it was, of places that are linked or are a linked one's parent; and the contest of listed leaves stays empty
pub record TreedWords (m m' : List ℕ) (n : ℕ) : Type 0 where
  pub long : length m' ≡ length m
  pub size : word m' 14 ≡ word m 14
  pub rows : (q k : ℕ) → q < n → 56 ≤ k → k < 68 → (k ≡ 59 → ⊥) → (k ≡ 63 → ⊥) → (k ≡ 65 → ⊥) → word m' (row q + k) ≡ word m (row q + k)
  pub headers : (q k : ℕ) → q < n → Used m q → 4 ≤ k → k < 20 → word m' (row q + k) ≡ word m (row q + k)
  pub ranks : (a : ℕ) → nodes n 0 ≤ a → a < nodes n 2 → word m' a ≡ word m a
  pub leaves : (a : ℕ) → leaves_at n ≤ a → a < vacant_at n → word m' a ≡ word m a
  pub linked : (q : ℕ) → q < n → linked_at m q ≡ true → Used m' q
  pub canonical : (q : ℕ) → q < n → enters m 1 q ≡ true → Used m' q
  pub parents : (q : ℕ) → q < n → linked_at m q ≡ true → up_at m q < n → Used m' (up_at m q)
  pub listless : Listless m n → Listless m' n
