-- What one turn of a sync does (document 01, "Standing in the tree"): a place is worked out by the values that stand, and if a value changed, the
-- live blocks that name it are pending.
use Rattle.std.specs.Prelude.{Bool, true, false, not, List, ◌≡◌, ℕ, ◌+◌, ◌≤◌, ◌<◌, length}
use Rattle.model.specs.Relink.{Pending, same, moves, worked, after, settled}
use Rattle.memory.specs.Words.{word, seg}
use Rattle.memory.specs.Layout.{row, by_hash, nodes, leaves_at, vacant_at}
use Rattle.contest.specs.Tree.{WF}
use Rattle.contest.specs.Contests as contest
use Rattle.rows.specs.Rows.{value_of}
use Rattle.state.specs.View.{values_of, view_at}
use Rattle.state.specs.Sound.{Used, SoundAt}
use Rattle.state.specs.TreeOnly.{TreeOnly}
use Rattle.values.specs.Values.{value_means}
use Rattle.values.specs.declared.Value.{Value}
use Rattle.pending.specs.Pending.{Pends}
use Rattle.kin.specs.Kin.{up_at, Kin}
use Rattle.kin.specs.Relinked.{KinOnly}
use Rattle.relink.specs.Treed.{Treed}

-- ---- one value ----

-- place p has the linked value v, with its parent at q if that is another value
pub record PutWinner (m m' : List ℕ) (n p q : ℕ) (v : Value) (r : Bool) : Type 0 where
  pub told : r ≡ not (same (value_of (seg m (row p + 56) 3)) (value_means v))
  pub idle : r ≡ false → m' ≡ m
  pub up : r ≡ true → up_at m' p ≡ q
  pub only : KinOnly m m' n p
  pub value : value_of (seg m' (row p + 56) 3) ≡ value_means v
  pub kin : Kin m n → Kin m' n
  pub ranks : WF n (contest.view m n 0) → WF n (contest.view m' n 0)

-- place p has the canonical linked value v
pub record PutCanonical (m m' : List ℕ) (n p : ℕ) (v : Value) (r : Bool) : Type 0 where
  pub told : r ≡ not (same (value_of (seg m (row p + 60) 3)) (value_means v))
  pub long : length m' ≡ length m
  pub only : (a : ℕ) → (row p + 60 ≤ a → a < row p + 63 → ⊥) → (nodes n 1 ≤ a → a < nodes n 2 → ⊥) → word m' a ≡ word m a
  pub value : value_of (seg m' (row p + 60) 3) ≡ value_means v
  pub ranks : WF n (contest.view m n 1) → WF n (contest.view m' n 1)

-- ---- both ----

-- of the tree's words, what is pending and the listed leaves stay too
pub record ValueOnly (m m' : List ℕ) (n : ℕ) : Type 0 where
  pub long : length m' ≡ length m
  pub head : (a : ℕ) → a < 64 → (a ≡ 14 → ⊥) → word m' a ≡ word m a
  pub rows : (q k : ℕ) → q < n → k < 68 → (56 ≤ k → (k ≡ 59 → ⊥) → (k ≡ 63 → ⊥) → ⊥) → word m' (row q + k) ≡ word m (row q + k)
  pub indexes : (a : ℕ) → by_hash n ≤ a → a < nodes n 0 → word m' a ≡ word m a
  pub contests : (a : ℕ) → nodes n 2 ≤ a → a < leaves_at n → word m' a ≡ word m a
  pub rest : (a : ℕ) → vacant_at n ≤ a → word m' a ≡ word m a

pub record Worked (m m' : List ℕ) (n p : ℕ) (r : Bool) : Type 0 where
  pub treed : Treed m' n
  pub values : values_of m' n ≡ worked (view_at m n).holdings (values_of m n) p
  pub told : r ≡ moves (view_at m n).holdings (values_of m n) p

pub record WorksOut (m m' : List ℕ) (n p : ℕ) (r : Bool) : Type 0 where
  pub only : ValueOnly m m' n
  pub right : SoundAt m n → Treed m n → Used m p → Worked m m' n p r

-- ---- a turn ----

pub record AfterTurn (m m' : List ℕ) (n p : ℕ) (pend : Pending) : Type 0 where
  pub treed : Treed m' n
  pub values : values_of m' n ≡ worked (view_at m n).holdings (values_of m n) p
  pub pends : Pends m' n (after (view_at m n).holdings (values_of m n) p pend)

pub record Turned (m m' : List ℕ) (n p : ℕ) : Type 0 where
  pub only : TreeOnly m m' n
  pub right : SoundAt m n → Treed m n → (pend : Pending) → Pends m n pend → pend p ≡ true → AfterTurn m m' n p pend

-- ---- all turns ----

pub record Settled (m m' : List ℕ) (n : ℕ) (pend : Pending) : Type 0 where
  pub treed : Treed m' n
  pub values : values_of m' n ≡ settled (view_at m n).holdings (values_of m n) pend
  pub pends : Pends m' n (λ q. false)

pub record Settles (m m' : List ℕ) (n : ℕ) : Type 0 where
  pub only : TreeOnly m m' n
  pub right : SoundAt m n → Treed m n → (pend : Pending) → Pends m n pend → Settled m m' n pend
