-- Laws of the pending places, for this crate and its users: what may change under them, and what a step at one place makes of them.
use mathlib.Core.Path.{◌≡◌, refl, sym, ap, ◌∙◌}
use mathlib.Core.Bool.{Bool, true, false, not, ◌&&◌, ◌||◌}
use mathlib.Core.List.{List}
use Prim.Native.Nat.{ℕ, ◌+◌, ◌≤◌, ◌<◌}
use native.Mathlib.Omega.{arith}
use lib.Dec.{eqb}
use lib.ListN.{length}
use borrow.Author.Tests.{eqb-true, eqb-false}
use Rattle.model.specs.Holding.{Cell}
use Rattle.model.specs.Relink.{Pending, turn_of}
use Rattle.model.proofs.Tools.{by_bool, no_both, and_left, or_none}
use Rattle.memory.specs.Words.{word, Stored}
use Rattle.memory.specs.Layout.{row, nodes, Laid}
use Rattle.memory.proofs.WordLaws.{stored_same, stored_other, stored_long}
use Rattle.contest.specs.Tree.{WF}
use Rattle.contest.specs.Keys.{enters}
use Rattle.contest.specs.Contests as contest
use Rattle.contest.specs.Contests.{Updated}
use Rattle.contest.proofs.KeyLaws.{enters_kept, enters_yes, enters_no}
use Rattle.contest.proofs.Uses.{Same, still, again, one_row}
use Rattle.state.specs.View.{cells_of, view_at}
use Rattle.state.specs.Sound.{Used}
use Rattle.state.specs.TreeOnly.{TreeOnly}
use Rattle.state.proofs.ViewLaws.{cell_same, below_same, view_same}
use Rattle.state.proofs.TreeSteps.{tree_cells, tree_used}
use Rattle.pending.specs.Pending.{Pends, PendOnly, Turns}

-- ---- frames ----

pub pend_same : (m : List ℕ) (n : ℕ) → PendOnly m m n
pend_same m n = record { long = refl; head = λ a x. refl; rows = λ q k h x y z. refl; before = λ a x y. refl; after = λ a x. refl }

pub pend_then : (m m₁ m₂ : List ℕ) (n : ℕ) → PendOnly m m₁ n → PendOnly m₁ m₂ n → PendOnly m m₂ n
pend_then m m₁ m₂ n a b = record {
  long = b.long ∙ a.long;
  head = λ i x. b.head i x ∙ a.head i x;
  rows = λ q k h x y z. b.rows q k h x y z ∙ a.rows q k h x y z;
  before = λ i x y. b.before i x y ∙ a.before i x y;
  after = λ i x. b.after i x ∙ a.after i x;
}

-- they are words of the tree
pub pend_tree : (m m' : List ℕ) (n : ℕ) → Laid m n → PendOnly m m' n → TreeOnly m m' n
pend_tree m m' n laid o = record {
  long = o.long;
  head = λ a x y. o.head a x;
  rows = λ q k h x y. o.rows q k h (omega arith) y (omega arith);
  indexes = λ a x y. o.before a x (omega arith);
  free = λ a x y. o.after a x;
  rest = λ a x. o.after a (omega arith);
}

-- .. that the view does not see
pub pend_view : (m m' : List ℕ) (n : ℕ) → PendOnly m m' n → view_at m' n ≡ view_at m n
pend_view m m' n o =
    view_same m m' n
    (record {
      head = λ a x. o.head a (omega arith);
      values = λ q h k x y z. o.rows q k h (omega arith) (omega arith) z;
      ring = λ a x. o.after a (omega arith);
    })
    (λ q h k l x y. o.rows q k h (omega arith) y (omega arith))

-- ---- the set ----

-- what is said of places from n on is nothing
pub pends_same : (m : List ℕ) (n : ℕ) (pend pend' : Pending) → ((q : ℕ) → q < n → pend q ≡ pend' q) → Pends m n pend → Pends m n pend'
pends_same m n pend pend' f p = record {
  tree = p.tree;
  members = λ q h. p.members q h ∙ f q h;
  turns = λ q h e. p.turns q h (f q h ∙ e);
  used = λ q h e. p.used q h (f q h ∙ e);
}

-- the cells, the turns, the marks and the nodes are as they were
pub pends_kept : (m m' : List ℕ) (n : ℕ) (pend : Pending) → Laid m n
    → ((q k : ℕ) → q < n → k < 56 → (k ≡ 2 → ⊥) → word m' (row q + k) ≡ word m (row q + k))
    → ((q : ℕ) → q < n → word m' (row q + 59) ≡ word m (row q + 59))
    → ((j : ℕ) → j < n → word m' (nodes n 2 + j) ≡ word m (nodes n 2 + j))
    → Pends m n pend → Pends m' n pend
pends_kept m m' n pend laid rows marks node p = record {
  tree = still m m' n 2 laid.few same p.tree;
  members = λ q h. enters_kept m m' 2 q (marks q h) ∙ p.members q h;
  turns = λ q h e. rows q 3 h (omega arith) (omega arith) ∙ p.turns q h e ∙ ap turn_of (sym (cell q h));
  used = λ q h e. used q h ∙ p.used q h e;
}
  where
    same : Same n 2 m m'
    same = record {
      node = node;
      marks = marks;
      keys = λ q h _. record {
        hash = λ _ w x y. rows q w h (omega arith) (omega arith);
        turn = λ _. rows q 3 h (omega arith) (omega arith);
        index = λ _ f. absurd (f refl);
        winner = λ _ f. absurd (f refl);
        canonical = λ e. absurd (omega arith);
      };
    }

    cell : (q : ℕ) → q < n → cells_of m' n q ≡ cells_of m n q
    cell q h = below_same n q _ _ _ (λ _. cell_same m m' q (λ k l x y. rows q k h l x))

    used : (q : ℕ) → q < n → word m' (row q) ≡ word m (row q)
    used q h = let e : row q + 0 ≡ row q = omega arith in rw e at (rows q 0 h (omega arith) (omega arith))

-- ---- a step at one place ----

-- words 3 and 59 of row p, where 59 becomes b, and the contest is put right
pub record Struck (m m' : List ℕ) (n p b : ℕ) : Type 0 where
  pub long : length m' ≡ length m
  pub only : (a : ℕ) → (a ≡ row p + 3 → ⊥) → (a ≡ row p + 59 → ⊥) → (nodes n 2 ≤ a → a < nodes n 3 → ⊥) → word m' a ≡ word m a
  pub mark : word m' (row p + 59) ≡ b
  pub tree : WF n (contest.view m n 2) → WF n (contest.view m' n 2)

pub struck : (m m₁ m₂ : List ℕ) (n p b : ℕ) → p < n → ((i : ℕ) → (i ≡ row p + 3 → ⊥) → (i ≡ row p + 59 → ⊥) → word m₁ i ≡ word m i)
    → length m₁ ≡ length m → word m₁ (row p + 59) ≡ b → Updated n 2 p m₁ m₂ → Struck m m₂ n p b
struck m m₁ m₂ n p b p<n other long mark u = record {
  long = u.long ∙ long;
  only = λ i x y z. u.only i (λ v w. z v (omega arith)) ∙ other i x y;
  mark = u.only (row p + 59) (omega arith) ∙ mark;
  tree = again m m₁ n 2 m₂ p (one_row m m₁ n 2 p 3 60 p<n (omega arith) (λ i h. other i (λ z. h (omega arith) (omega arith)) (λ z. h (omega arith) (omega arith)))) u;
}

module _ (m m' : List ℕ) (n p b : ℕ) (laid : Laid m n) (p<n : p < n) (s : Struck m m' n p b) where
  pub struck_only : PendOnly m m' n
  struck_only = record {
    long = s.long;
    head = λ a x. s.only a (omega arith) (omega arith) (omega arith);
    rows = λ q k h x y z. s.only (row q + k) (λ e. y (omega arith)) (λ e. z (omega arith)) (omega arith);
    before = λ a x y. s.only a (omega arith) (omega arith) (omega arith);
    after = λ a x. s.only a (omega arith) (omega arith) (omega arith);
  }

  cell : (q : ℕ) → cells_of m' n q ≡ cells_of m n q
  cell q = ap (λ (g : ℕ → Cell). g q) (tree_cells m m' n (pend_tree m m' n laid struck_only))

  used_kept : (q : ℕ) → q < n → Used m q → Used m' q
  used_kept q h u = tree_used m m' n (pend_tree m m' n laid struck_only) q h ∙ u

  turn_else : (q : ℕ) → q < n → (q ≡ p → ⊥) → word m (row q + 3) ≡ turn_of (cells_of m n q) → word m' (row q + 3) ≡ turn_of (cells_of m' n q)
  turn_else q h ne e = s.only (row q + 3) (λ z. ne (omega arith)) (omega arith) (omega arith) ∙ e ∙ ap turn_of (sym (cell q))

  member_else : (q : ℕ) → q < n → (q ≡ p → ⊥) → enters m' 2 q ≡ enters m 2 q
  member_else q h ne = enters_kept m m' 2 q (s.only (row q + 59) (omega arith) (λ z. ne (omega arith)) (omega arith))

pub or_true : (a : Bool) → (a || true) ≡ true
or_true true = refl
or_true false = refl

pub and_true : (a : Bool) → (a && true) ≡ a
and_true true = refl
and_true false = refl

pub and_false : (a : Bool) → (a && false) ≡ false
and_false true = refl
and_false false = refl

-- place p becomes pending
module _ (m m' : List ℕ) (n p : ℕ) (laid : Laid m n) (p<n : p < n) (s : Struck m m' n p 1) (turn : word m' (row p + 3) ≡ turn_of (cells_of m n p)) where
  module _ (used : Used m p) (pend : Pending) (a : Pends m n pend) where
    added_member : (q : ℕ) → q < n → enters m' 2 q ≡ (pend q || eqb q p)
    added_member q h =
        by_bool (eqb q p)
        (λ e. let z : q ≡ p = eqb-true q p e in ap (enters m' 2) z ∙ enters_yes m' 2 p (λ y. let w = s.mark in omega arith) ∙ rw e (sym (or_true (pend q))))
        (λ e. member_else m m' n p 1 laid p<n s q h (eqb-false q p e) ∙ a.members q h ∙ rw e (sym (or_none (pend q))))

    -- a pending place is p or was pending
    added_which : {P : Type 0} (q : ℕ) → (pend q || eqb q p) ≡ true → (q ≡ p → P) → ((q ≡ p → ⊥) → pend q ≡ true → P) → P
    added_which q e f g = by_bool (eqb q p) (λ i. f (eqb-true q p i)) (λ i. g (eqb-false q p i) (sym (or_none (pend q)) ∙ (rw i at e)))

    added : Pends m' n (λ q. pend q || eqb q p)
    added = record {
      tree = s.tree a.tree;
      members = added_member;
      turns = λ q h e.
          added_which q e (λ z. rw z (turn ∙ ap turn_of (sym (cell m m' n p 1 laid p<n s p))))
          (λ ne i. turn_else m m' n p 1 laid p<n s q h ne (a.turns q h i));
      used = λ q h e. added_which q e (λ z. rw z (used_kept m m' n p 1 laid p<n s p p<n used)) (λ ne i. used_kept m m' n p 1 laid p<n s q h (a.used q h i));
    }

  pub add_done : Turns m m' n (Used m p) (λ pend q. pend q || eqb q p)
  add_done = record { only = struck_only m m' n p 1 laid p<n s; right = λ _ u pend a. added u pend a }

-- .. which changes nothing where it was pending: its turn and its block are right already
pub add_again : (m : List ℕ) (n p : ℕ) → word m (row p + 59) ≡ 1 → Turns m m n (Used m p) (λ pend q. pend q || eqb q p)
add_again m n p marked = record { only = pend_same m n; right = λ _ _ pend a. pends_same m n pend (λ q. pend q || eqb q p) (same pend a) a }
  where
    same : (pend : Pending) → Pends m n pend → (q : ℕ) → q < n → pend q ≡ (pend q || eqb q p)
    same pend a q h =
        by_bool (eqb q p)
        (λ e. let z : q ≡ p = eqb-true q p e in sym (a.members q h) ∙ ap (enters m 2) z ∙ enters_yes m 2 p (omega arith) ∙ rw e (sym (or_true (pend q))))
        (λ e. rw e (sym (or_none (pend q))))

-- place p is pending no more
module _ (m m' : List ℕ) (n p : ℕ) (laid : Laid m n) (p<n : p < n) (s : Struck m m' n p 0) where
  module _ (pend : Pending) (a : Pends m n pend) where
    dropped_member : (q : ℕ) → q < n → enters m' 2 q ≡ (pend q && not (eqb q p))
    dropped_member q h =
        by_bool (eqb q p)
        (λ e. let z : q ≡ p = eqb-true q p e in ap (enters m' 2) z ∙ enters_no m' 2 p s.mark ∙ rw e (sym (and_false (pend q))))
        (λ e. member_else m m' n p 0 laid p<n s q h (eqb-false q p e) ∙ a.members q h ∙ rw e (sym (and_true (pend q))))

    dropped_which : (q : ℕ) → (pend q && not (eqb q p)) ≡ true → (q ≡ p → ⊥) × (pend q ≡ true)
    dropped_which q e =
        by_bool (eqb q p) (λ i. no_both false (sym (and_false (pend q)) ∙ (rw i at e)) refl)
        (λ i. (eqb-false q p i, and_left (pend q) (not (eqb q p)) e))

    dropped : Pends m' n (λ q. pend q && not (eqb q p))
    dropped = record {
      tree = s.tree a.tree;
      members = dropped_member;
      turns = λ q h e. let w = dropped_which q e in turn_else m m' n p 0 laid p<n s q h w.0 (a.turns q h w.1);
      used = λ q h e. let w = dropped_which q e in used_kept m m' n p 0 laid p<n s q h (a.used q h w.1);
    }

  pub drop_done : Turns m m' n (Unit {0}) (λ pend q. pend q && not (eqb q p))
  drop_done = record { only = struck_only m m' n p 0 laid p<n s; right = λ _ _ pend a. dropped pend a }

-- ---- the stores ----

module _ (m m₁ m₂ m₃ : List ℕ) (n p t : ℕ) (laid : Laid m n) (p<n : p < n)
    (s₁ : Stored m m₁ (row p + 3) t) (s₂ : Stored m₁ m₂ (row p + 59) 1) (u : Updated n 2 p m₂ m₃) where
  pub add_stores : t ≡ turn_of (cells_of m n p) → Turns m m₃ n (Used m p) (λ pend q. pend q || eqb q p)
  add_stores e =
      let l₁ = stored_long s₁ in
      add_done m m₃ n p laid p<n
      (struck m m₂ m₃ n p 1 p<n (λ i x y. stored_other s₂ i y ∙ stored_other s₁ i x) (stored_long s₂ ∙ l₁) (stored_same s₂ (omega (arith, laid.fits))) u)
      (u.only (row p + 3) (omega arith) ∙ stored_other s₂ (row p + 3) (omega arith) ∙ stored_same s₁ (omega (arith, laid.fits)) ∙ e)

module _ (m m₁ m₂ : List ℕ) (n p : ℕ) (laid : Laid m n) (p<n : p < n) (s : Stored m m₁ (row p + 59) 0) (u : Updated n 2 p m₁ m₂) where
  pub drop_stores : Turns m m₂ n (Unit {0}) (λ pend q. pend q && not (eqb q p))
  drop_stores =
      drop_done m m₂ n p laid p<n (struck m m₁ m₂ n p 0 p<n (λ i x y. stored_other s i y) (stored_long s) (stored_same s (omega (arith, laid.fits))) u)

pub laid_stored : {m m' : List ℕ} {n a v : ℕ} → 2 ≤ a → Stored m m' a v → Laid m n → Laid m' n
laid_stored {m} {m'} {n} {a} {v} h s laid =
    let x : word m' 0 ≡ word m 0 = stored_other s 0 (omega arith) in
    let y : word m' 1 ≡ word m 1 = stored_other s 1 (omega arith) in
    let z = stored_long s in
    omega arith
