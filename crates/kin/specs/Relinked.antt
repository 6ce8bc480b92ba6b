-- What a place's new linked value leaves of a memory.
use Rattle.std.specs.Prelude.{List, ◌≡◌, ℕ, ◌+◌, ◌≤◌, ◌<◌, length}
use Rattle.memory.specs.Words.{word, seg}
use Rattle.memory.specs.Layout.{row, by_hash, nodes, leaves_at, vacant_at}
use Rattle.contest.specs.Tree.{WF}
use Rattle.contest.specs.Contests as contest
use Rattle.rows.specs.Rows.{value_of}
use Rattle.values.specs.Values.{value_means}
use Rattle.values.specs.declared.Value.{Value}
use Rattle.kin.specs.Kin.{up_at, Kin}

-- the value of p and its parent's place, children and leaves, and the contest of linked ranks may change, nothing else
pub record KinOnly (m m' : List ℕ) (n p : ℕ) : Type 0 where
  pub long : length m' ≡ length m
  pub head : (a : ℕ) → a < 64 → (a ≡ 14 → ⊥) → word m' a ≡ word m a
  pub rows : (q k : ℕ) → q < n → k < 68 → (k ≡ 64 → ⊥) → (k ≡ 66 → ⊥) → (q ≡ p → 56 ≤ k → k < 59 → ⊥) → (q ≡ p → k ≡ 67 → ⊥) → word m' (row q + k) ≡ word m (row q + k)
  pub indexes : (a : ℕ) → by_hash n ≤ a → a < nodes n 0 → word m' a ≡ word m a
  pub contests : (a : ℕ) → nodes n 1 ≤ a → a < leaves_at n → word m' a ≡ word m a
  pub rest : (a : ℕ) → vacant_at n ≤ a → word m' a ≡ word m a

-- place p has the linked value v, and q is its parent's place
pub record Relinked (m m' : List ℕ) (n p q : ℕ) (v : Value) : Type 0 where
  pub only : KinOnly m m' n p
  pub value : value_of (seg m' (row p + 56) 3) ≡ value_means v
  pub up : up_at m' p ≡ q
  pub kin : Kin m n → Kin m' n
  pub ranks : WF n (contest.view m n 0) → WF n (contest.view m' n 0)
