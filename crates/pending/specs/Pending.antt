-- Document 01, "Standing in the tree": the places to be worked out, as the contest of turns holds them, and what the steps of that contest promise.
use Rattle.std.specs.Prelude.{true, List, ◌≡◌, ℕ, ◌+◌, ◌≤◌, ◌<◌, length}
use Rattle.model.specs.Relink.{Pending, turn_of}
use Rattle.memory.specs.Words.{word}
use Rattle.memory.specs.Layout.{row, by_hash, nodes}
use Rattle.contest.specs.Tree.{WF}
use Rattle.contest.specs.Keys.{enters}
use Rattle.contest.specs.Contests as contest
use Rattle.state.specs.View.{cells_of}
use Rattle.state.specs.Sound.{Used, SoundAt}

-- the contest of turns holds the places that are pending, under the turn and the hash of their blocks
pub record Pends (m : List ℕ) (n : ℕ) (pend : Pending) : Type 0 where
  pub tree : WF n (contest.view m n 2)
  pub members : (q : ℕ) → q < n → enters m 2 q ≡ pend q
  pub turns : (q : ℕ) → q < n → pend q ≡ true → word m (row q + 3) ≡ turn_of (cells_of m n q)
  pub used : (q : ℕ) → q < n → pend q ≡ true → Used m q

-- words 3 and 59 of rows and the nodes of the contest of turns may change, nothing else
pub record PendOnly (m m' : List ℕ) (n : ℕ) : Type 0 where
  pub long : length m' ≡ length m
  pub head : (a : ℕ) → a < 64 → word m' a ≡ word m a
  pub rows : (q k : ℕ) → q < n → k < 68 → (k ≡ 3 → ⊥) → (k ≡ 59 → ⊥) → word m' (row q + k) ≡ word m (row q + k)
  pub before : (a : ℕ) → by_hash n ≤ a → a < nodes n 2 → word m' a ≡ word m a
  pub after : (a : ℕ) → nodes n 3 ≤ a → word m' a ≡ word m a

-- a step: of any memory a frame; of a sound one where P holds, what was pending becomes what f says
pub record Turns (m m' : List ℕ) (n : ℕ) (P : Type 0) (f : Pending → Pending) : Type 0 where
  pub only : PendOnly m m' n
  pub right : SoundAt m n → P → (pend : Pending) → Pends m n pend → Pends m' n (f pend)
