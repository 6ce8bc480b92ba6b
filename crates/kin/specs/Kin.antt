-- Document 01, "Standing in the tree", leaf: linked, and no linked block has it as parent. What a memory keeps for it: of each place the place
-- of its linked parent (word 67) and the number of its linked children (word 64), and the roster of leaves.
use Rattle.std.specs.Prelude.{Bool, ◌&&◌, List, ◌≡◌, ℕ, ◌+◌, ◌≤◌, ◌<◌, eqb, ltb, length}
use Rattle.amount.specs.Choose.{◌if◌else◌}
use Rattle.model.specs.Places.{count}
use Rattle.model.specs.Numbers.{max_word}
use Rattle.memory.specs.Words.{word}
use Rattle.memory.specs.Layout.{row, leaves_at, vacant_at}
use Rattle.contest.specs.Keys.{enters}
use Rattle.roster.specs.Roster.{WellFormed, is_in}

-- the place has a linked value
abbrev pub linked_at : List ℕ → ℕ → Bool
linked_at m p = enters m 0 p

abbrev pub up_at : List ℕ → ℕ → ℕ
up_at m p = word m (row p + 67)

abbrev pub kids_at : List ℕ → ℕ → ℕ
kids_at m p = word m (row p + 64)

-- the roster of leaves: its size is head word 14, positions are word 66 of each row
abbrev pub Leaves : List ℕ → ℕ → Type 0
Leaves m n = WellFormed m n (leaves_at n) 14 130

abbrev pub is_listed : List ℕ → ℕ → ℕ → Bool
is_listed m n p = is_in m n (leaves_at n) 14 130 p

-- a leaf, by what the row says
abbrev pub leaf_at : List ℕ → ℕ → Bool
leaf_at m p = linked_at m p && eqb (kids_at m p) 0

-- numbers of children and the roster agree with who is linked to whom
pub record Kin (m : List ℕ) (n : ℕ) : Type 0 where
  pub counts : (q : ℕ) → q < n → kids_at m q ≡ count (λ p. linked_at m p && eqb (up_at m p) q) n
  pub roster : Leaves m n
  pub leaf : (q : ℕ) → q < n → is_listed m n q ≡ leaf_at m q

-- ---- steps ----

-- the place that p is a linked child of, or n
abbrev pub kin_of : List ℕ → ℕ → ℕ → ℕ
kin_of m n p = (up_at m p if ltb (up_at m p) n else n) if linked_at m p else n

-- place u, if it is one, has a child less; .. more
pub record Lowered (m m' : List ℕ) (n u : ℕ) : Type 0 where
  pub only : (a : ℕ) → (u < n → a ≡ row u + 64 → ⊥) → word m' a ≡ word m a
  pub long : length m' ≡ length m
  pub is : u < n → 1 ≤ kids_at m u → kids_at m' u + 1 ≡ kids_at m u

pub record Raised (m m' : List ℕ) (n u : ℕ) : Type 0 where
  pub only : (a : ℕ) → (u < n → a ≡ row u + 64 → ⊥) → word m' a ≡ word m a
  pub long : length m' ≡ length m
  pub is : u < n → kids_at m u < max_word → kids_at m' u ≡ kids_at m u + 1

-- place x, if it is one, is listed exactly if it is a leaf
pub record Judged (m m' : List ℕ) (n x : ℕ) : Type 0 where
  pub only : (a : ℕ) → (a ≡ 14 → ⊥) → (leaves_at n ≤ a → a < vacant_at n → ⊥) → ((y : ℕ) → y < n → a ≡ row y + 66 → ⊥) → word m' a ≡ word m a
  pub long : length m' ≡ length m
  pub well : Leaves m n → Leaves m' n
  pub is : Leaves m n → x < n → is_listed m' n x ≡ leaf_at m x
  pub others : Leaves m n → (q : ℕ) → q < n → (q ≡ x → ⊥) → is_listed m' n q ≡ is_listed m n q
