-- A place is worked out: both values are put, and what the tree keeps follows.
use mathlib.Core.Path.{◌≡◌, refl, sym, ap, ◌∙◌, subst, fun_ext}
use mathlib.Core.Bool.{Bool, true, false, not, ◌||◌}
use mathlib.Core.List.{List}
use Prim.Native.Nat.{ℕ, ◌+◌, ◌≤◌, ◌<◌}
use native.Mathlib.Omega.{arith}
use lib.Dec.{eqb}
use borrow.Author.Tests.{eqb-true, eqb-false, lt-ltb}
use Rattle.amount.specs.Choose.{◌if◌else◌}
use Rattle.amount.specs.Amounts.{Amount, readable, unreadable}
use Rattle.model.specs.Holding.{Cell, free, held, Holdings, index_of}
use Rattle.model.specs.Standing.{Spine, winner, canonical, Value as Worth, unlinked, is_linked, Values, standing, on_actual, may, names, parent}
use Rattle.model.specs.Relink.{same, work_out, moves, worked}
use Rattle.model.proofs.Tools.{by_bool, no_both}
use Rattle.model.proofs.Turn.{parent-some}
use Rattle.memory.specs.Words.{word, seg}
use Rattle.memory.specs.Layout.{row, nodes, leaves_at, vacant_at, Laid}
use Rattle.memory.proofs.WordLaws.{seg_same}
use Rattle.contest.specs.Keys.{enters}
use Rattle.contest.proofs.KeyLaws.{enters_kept}
use Rattle.contest.proofs.Uses.{Same, still}
use Rattle.rows.specs.Rows as rows
use Rattle.rows.specs.Rows.{value_of}
use Rattle.state.specs.View.{cells_of, values_of, view_at}
use Rattle.state.specs.Sound.{Used, SoundAt, placed}
use Rattle.state.specs.TreeOnly.{TreeOnly}
use Rattle.state.proofs.FindLaws.{placed_in, placed_out}
use Rattle.state.proofs.SoundLaws.{laid_same}
use Rattle.state.proofs.ViewLaws.{below_same}
use Rattle.state.proofs.TreeSteps.{tree_cells, tree_used}
use Rattle.values.specs.Values.{value_means}
use Rattle.values.specs.declared.Value.{Value}
use Rattle.kin.specs.Kin.{linked_at, up_at}
use Rattle.kin.specs.Relinked.{KinOnly}
use Rattle.relink.specs.Treed.{Above, Listless, Treed}
use Rattle.relink.specs.Turned.{PutWinner, PutCanonical, ValueOnly, WorksOut}
use Rattle.relink.proofs.TreedLaws.{linked_same, up_same, kin_frame, listless_same}

-- ---- frames ----

pub kin_values : (m m' : List ℕ) (n p : ℕ) → KinOnly m m' n p → ValueOnly m m' n
kin_values m m' n p k = record {
  long = k.long;
  head = k.head;
  rows = λ q i h l f. k.rows q i h l (λ e. f (omega arith) (λ x. omega arith) (λ x. omega arith)) (λ e. f (omega arith) (λ x. omega arith) (λ x. omega arith)) (λ e x y. f x (λ z. omega arith) (λ z. omega arith)) (λ e x. f (omega arith) (λ z. omega arith) (λ z. omega arith));
  indexes = k.indexes;
  contests = λ a x y. k.contests a (omega arith) y;
  rest = k.rest;
}

pub canonical_values : (m m' : List ℕ) (n p : ℕ) (v : Value) (r : Bool) → p < n → PutCanonical m m' n p v r → ValueOnly m m' n
canonical_values m m' n p v r p<n c = record {
  long = c.long;
  head = λ a h e. c.only a (λ x y. omega arith) (λ x y. omega arith);
  rows = λ q i h l f. c.only (row q + i) (λ x y. f (omega arith) (λ z. omega arith) (λ z. omega arith)) (λ x y. omega arith);
  indexes = λ a x y. c.only a (λ i j. omega arith) (λ i j. omega arith);
  contests = λ a x y. c.only a (λ i j. omega arith) (λ i j. omega arith);
  rest = λ a x. c.only a (λ i j. omega arith) (λ i j. omega arith);
}

pub values_then : (m m₁ m₂ : List ℕ) (n : ℕ) → ValueOnly m m₁ n → ValueOnly m₁ m₂ n → ValueOnly m m₂ n
values_then m m₁ m₂ n a b = record {
  long = b.long ∙ a.long;
  head = λ i x y. b.head i x y ∙ a.head i x y;
  rows = λ q k h l f. b.rows q k h l f ∙ a.rows q k h l f;
  indexes = λ i x y. b.indexes i x y ∙ a.indexes i x y;
  contests = λ i x y. b.contests i x y ∙ a.contests i x y;
  rest = λ i x. b.rest i x ∙ a.rest i x;
}

pub values_tree : (m m' : List ℕ) (n : ℕ) → ValueOnly m m' n → TreeOnly m m' n
values_tree m m' n v = record {
  long = v.long;
  head = v.head;
  rows = λ q k h l e. v.rows q k h (omega arith) (λ x y z. omega arith);
  indexes = v.indexes;
  free = λ a x y. v.contests a (omega arith) (omega arith);
  rest = v.rest;
}

pub values_laid : (m m' : List ℕ) (n : ℕ) → ValueOnly m m' n → Laid m n → Laid m' n
values_laid m m' n v l = laid_same m m' n l (v.head 0 (omega arith) (λ e. omega arith)) (v.head 1 (omega arith) (λ e. omega arith)) v.long

-- ---- the linked value ----

linked_word : (s : ℕ → ℕ) → is_linked (value_of s) ≡ not (eqb (s 0) 0)
unfolding value_of
linked_word s = by_bool (eqb (s 0) 0) (λ e. rw e) (λ e. rw e)

-- a place is linked if its value is
pub linked_is : (m : List ℕ) (p : ℕ) → linked_at m p ≡ is_linked (value_of (seg m (row p + 56) 3))
unfolding enters
linked_is m p = ap (λ (i : ℕ). not (eqb (word m i) 0)) {x = row p + 56} {y = row p + 56 + 0} (omega arith) ∙ sym (linked_word (seg m (row p + 56) 3))

pub canonical_is : (m : List ℕ) (p : ℕ) → enters m 1 p ≡ is_linked (value_of (seg m (row p + 60) 3))
unfolding enters
canonical_is m p = ap (λ (i : ℕ). not (eqb (word m i) 0)) {x = row p + 60} {y = row p + 60 + 0} (omega arith) ∙ sym (linked_word (seg m (row p + 60) 3))

module _ (m m' : List ℕ) (n p q : ℕ) (v : Value) (r : Bool) (laid : Laid m n) (p<n : p < n) (t : Treed m n) (used : Used m p) (k : PutWinner m m' n p q v r)
    (place : is_linked (value_means v) ≡ true → (q < n → names (cells_of m n p) (cells_of m n q) ≡ true) × (n ≤ q → index_of (cells_of m n p) ≡ 0)) where
  tree : TreeOnly m m' n
  tree = values_tree m m' n (kin_values m m' n p k.only)

  stays : (x i : ℕ) → x < n → i < 68 → (i ≡ 64 → ⊥) → (i ≡ 66 → ⊥) → (56 ≤ i → i < 59 → ⊥) → (i ≡ 67 → ⊥) → word m' (row x + i) ≡ word m (row x + i)
  stays x i h l a b c d = k.only.rows x i h l a b (λ e. c) (λ e. d)

  other : (x i : ℕ) → x < n → i < 68 → (i ≡ 64 → ⊥) → (i ≡ 66 → ⊥) → (x ≡ p → ⊥) → word m' (row x + i) ≡ word m (row x + i)
  other x i h l a b ne = k.only.rows x i h l a b (λ e y z. ne e) (λ e y. ne e)

  still_used : (x : ℕ) → x < n → Used m x → Used m' x
  still_used x h u = tree_used m m' n tree x h ∙ u

  linked_there : (x : ℕ) → x < n → (x ≡ p → ⊥) → linked_at m' x ≡ linked_at m x
  linked_there x h ne = enters_kept m m' 0 x (other x 56 h (omega arith) (λ e. omega arith) (λ e. omega arith) ne)

  canonical_same : (x : ℕ) → x < n → enters m' 1 x ≡ enters m 1 x
  canonical_same x h = enters_kept m m' 1 x (stays x 60 h (omega arith) (λ e. omega arith) (λ e. omega arith) (λ y z. omega arith) (λ e. omega arith))

  canonical_words : Same n 1 m m'
  canonical_words = record {
    node = λ j h. k.only.contests (nodes n 1 + j) (omega arith) (omega arith);
    marks = λ x h. stays x 60 h (omega arith) (λ e. omega arith) (λ e. omega arith) (λ y z. omega arith) (λ e. omega arith);
    keys = λ x h e. record {
      hash = λ a i y z. stays x i h (omega arith) (λ e. omega arith) (λ e. omega arith) (λ b c. omega arith) (λ e. omega arith);
      turn = λ a. absurd (omega (arith, a));
      index = λ a b. stays x 12 h (omega arith) (λ e. omega arith) (λ e. omega arith) (λ y z. omega arith) (λ e. omega arith);
      winner = λ a b c. absurd (c refl);
      canonical = λ a i y z. stays x i h (omega arith) (λ e. omega arith) (λ e. omega arith) (λ b c. omega arith) (λ e. omega arith);
    };
  }

  still_listless : Listless m' n
  still_listless = listless_same m m' n laid (λ x h. stays x 63 h (omega arith) (λ e. omega arith) (λ e. omega arith) (λ y z. omega arith) (λ e. omega arith)) (λ j h. k.only.contests (nodes n 4 + j) (omega arith) (omega arith)) t.listless

  cells : (x : ℕ) → cells_of m' n x ≡ cells_of m n x
  cells x = ap (λ (f : ℕ → Cell). f x) (tree_cells m m' n tree)

  above_there : (x : ℕ) → x < n → (x ≡ p → ⊥) → linked_at m' x ≡ true → Above m' n x
  above_there x h ne e =
      let a = t.above x h (sym (linked_there x h ne) ∙ e) in
      let u : up_at m' x ≡ up_at m x = other x 67 h (omega arith) (λ e. omega arith) (λ e. omega arith) ne in
      record {
        named = λ l. rw (u, cells x, cells (up_at m x)) (a.named (rw u at l));
        root = λ l. rw (cells x) (a.root (rw u at l));
      }

  above_here : r ≡ true → linked_at m' p ≡ true → Above m' n p
  above_here moved e =
      let l : is_linked (value_means v) ≡ true = ap is_linked (sym k.value) ∙ sym (linked_is m' p) ∙ e in
      let u : up_at m' p ≡ q = k.up moved in
      record {
        named = λ h. rw (u, cells p, cells q) ((place l).0 (rw u at h));
        root = λ h. rw (cells p) ((place l).1 (rw u at h));
      }

  pub winner_treed : Treed m' n
  winner_treed = by_bool r moved (λ e. subst (λ (z : List ℕ). Treed z n) (sym (k.idle e)) t)
    where
      moved : r ≡ true → Treed m' n
      moved e = record {
        winners = k.ranks t.winners;
        canonicals = still m m' n 1 laid.few canonical_words t.canonicals;
        kin = k.kin t.kin;
        linked = λ x h f. by_bool (eqb x p) (λ i. let z : x ≡ p = eqb-true x p i in rw z (still_used p p<n used)) (λ i. still_used x h (t.linked x h (sym (linked_there x h (eqb-false x p i)) ∙ f)));
        canonical = λ x h f. still_used x h (t.canonical x h (sym (canonical_same x h) ∙ f));
        above = λ x h f. by_bool (eqb x p) (λ i. let z : x ≡ p = eqb-true x p i in subst (Above m' n) (sym z) (above_here e (subst (λ (y : ℕ). linked_at m' y ≡ true) z f))) (λ i. above_there x h (eqb-false x p i) f);
        listless = still_listless;
      }

-- ---- the canonical linked value ----

module _ (m m' : List ℕ) (n p : ℕ) (v : Value) (r : Bool) (laid : Laid m n) (p<n : p < n) (t : Treed m n) (used : Used m p) (k : PutCanonical m m' n p v r) where
  in_row : (x i : ℕ) → x < n → i < 68 → (60 ≤ i → i < 63 → x ≡ p → ⊥) → word m' (row x + i) ≡ word m (row x + i)
  in_row x i h l f = k.only (row x + i) (λ y z. f (omega arith) (omega arith) (omega arith)) (λ y z. omega arith)

  tail : (x i : ℕ) → x < n → 56 ≤ i → i < 68 → (59 ≤ i → i < 64 → ⊥) → (i ≡ 65 → ⊥) → word m' (row x + i) ≡ word m (row x + i)
  tail x i h y z f v = in_row x i h z (λ a b e. f (omega arith) (omega arith))

  size : word m' 14 ≡ word m 14
  size = k.only 14 (λ y z. omega arith) (λ y z. omega arith)

  list : (a : ℕ) → leaves_at n ≤ a → a < vacant_at n → word m' a ≡ word m a
  list a y z = k.only a (λ b c. omega arith) (λ b c. omega arith)

  used_still : (x : ℕ) → x < n → Used m x → Used m' x
  used_still x h u = k.only (row x) (λ y z. omega arith) (λ y z. omega arith) ∙ u

  linked_still : (x : ℕ) → x < n → linked_at m' x ≡ linked_at m x
  linked_still = linked_same m m' n size tail list

  rank_words : Same n 0 m m'
  rank_words = record {
    node = λ j h. k.only (nodes n 0 + j) (λ y z. omega arith) (λ y z. omega arith);
    marks = λ x h. in_row x 56 h (omega arith) (λ a b e. omega arith);
    keys = λ x h e. record {
      hash = λ a i y z. in_row x i h (omega arith) (λ a b e. omega arith);
      turn = λ a. absurd (omega (arith, a));
      index = λ a b. in_row x 12 h (omega arith) (λ a b e. omega arith);
      winner = λ a b c i y z. in_row x i h (omega arith) (λ a b e. omega arith);
      canonical = λ a. absurd (omega (arith, a));
    };
  }

  cells_still : (x : ℕ) → cells_of m' n x ≡ cells_of m n x
  cells_still x = ap (λ (f : ℕ → Cell). f x) (tree_cells m m' n (values_tree m m' n (canonical_values m m' n p v r p<n k)))

  pub canonical_treed : Treed m' n
  canonical_treed = record {
    winners = still m m' n 0 laid.few rank_words t.winners;
    canonicals = k.ranks t.canonicals;
    kin = kin_frame m m' n size tail list t.kin;
    linked = λ x h f. used_still x h (t.linked x h (sym (linked_still x h) ∙ f));
    canonical = λ x h f.
        by_bool (eqb x p) (λ i. let z : x ≡ p = eqb-true x p i in rw z (used_still p p<n used))
        (λ i. used_still x h (t.canonical x h (sym (enters_kept m m' 1 x (in_row x 60 h (omega arith) (λ a b e. eqb-false x p i e))) ∙ f)));
    above = λ x h f.
        let a = t.above x h (sym (linked_still x h) ∙ f) in
        let u : up_at m' x ≡ up_at m x = up_same m m' n size tail list x h in
        record {
          named = λ l. rw (u, cells_still x, cells_still (up_at m x)) (a.named (rw u at l));
          root = λ l. rw (cells_still x) (a.root (rw u at l));
        };
    listless = listless_same m m' n laid (λ x h. in_row x 63 h (omega arith) (λ a b e. omega arith)) (λ j h. k.only (nodes n 4 + j) (λ y z. omega arith) (λ y z. omega arith)) t.listless;
  }

-- ---- where a linked place stands ----

-- with no parent, only index 0 is linked
pub root_linked : (c : Cell) → is_linked (standing winner c unlinked) ≡ true → index_of c ≡ 0
unfolding standing
root_linked free e = refl
root_linked (held c) e = go (may winner c) c.header.actual e
  where
    go : (b : Bool) (a : Amount) → is_linked (on_actual c.header unlinked a if b else unlinked) ≡ true → c.header.index ≡ 0
    go false a e = no_both false e refl
    go true unreadable e = no_both false e refl
    go true (readable a) e = by_bool (eqb c.header.index 0) (λ i. eqb-true c.header.index 0 i) (λ i. no_both false (rw i at e) refl)

module _ (h : Holdings) (v : Values) (n p q : ℕ) (at : parent h p ≡ placed n q) (is : is_linked (work_out h v winner p) ≡ true) where
  pub stands_named : q < n → names (h.cells p) (h.cells q) ≡ true
  stands_named l = (parent-some h p q (at ∙ placed_in n q l)).0

  pub stands_root : n ≤ q → index_of (h.cells p) ≡ 0
  unfolding work_out
  stands_root l = root_linked (h.cells p) (rw (at ∙ placed_out n q l) at is)

-- ---- both values ----

module _ (m m₁ m₂ : List ℕ) (n p q : ℕ) (a b : Value) (r₁ r₂ : Bool) (laid : Laid m n) (p<n : p < n)
    (parent_is : SoundAt m n → parent (view_at m n).holdings p ≡ placed n q)
    (a_is : SoundAt m n → parent (view_at m n).holdings p ≡ placed n q → value_means a ≡ work_out (view_at m n).holdings (values_of m n) winner p)
    (b_is : SoundAt m n → parent (view_at m n).holdings p ≡ placed n q → value_means b ≡ work_out (view_at m n).holdings (values_of m n) canonical p)
    (k₁ : PutWinner m m₁ n p q a r₁) (k₂ : PutCanonical m₁ m₂ n p b r₂) where
  only₁ : ValueOnly m m₁ n
  only₁ = kin_values m m₁ n p k₁.only

  only₂ : ValueOnly m₁ m₂ n
  only₂ = canonical_values m₁ m₂ n p b r₂ p<n k₂

  module _ (s : SoundAt m n) (t : Treed m n) (used : Used m p) where
    h : Holdings
    h = (view_at m n).holdings

    cells_are : (x : ℕ) → (view_at m n).holdings.cells x ≡ cells_of m n x
    unfolding view_at
    cells_are x = refl

    t₁ : Treed m₁ n
    t₁ = winner_treed m m₁ n p q a r₁ laid p<n t used k₁ (λ e.
        let l : is_linked (work_out (view_at m n).holdings (values_of m n) winner p) ≡ true = ap is_linked (sym (a_is s (parent_is s))) ∙ e in
        ((λ i. rw (← cells_are p, ← cells_are q) (stands_named (view_at m n).holdings (values_of m n) n p q (parent_is s) l i)), (λ i. rw (← cells_are p) (stands_root (view_at m n).holdings (values_of m n) n p q (parent_is s) l i))))

    t₂ : Treed m₂ n
    t₂ = canonical_treed m₁ m₂ n p b r₂ (values_laid m m₁ n only₁ laid) p<n t₁ (tree_used m m₁ n (values_tree m m₁ n only₁) p p<n ∙ used) k₂

    -- the values at p, before and after
    was_winner : values_of m n winner p ≡ value_of (seg m (row p + 56) 3)
    was_winner = rw (lt-ltb p n p<n)

    was_canonical : values_of m n canonical p ≡ value_of (seg m (row p + 60) 3)
    was_canonical = rw (lt-ltb p n p<n)

    mid_canonical : value_of (seg m₁ (row p + 60) 3) ≡ value_of (seg m (row p + 60) 3)
    mid_canonical = ap value_of (seg_same m m₁ (row p + 60) 3 (λ i l. let z : row p + 60 + i ≡ row p + (60 + i) = omega arith in rw z (k₁.only.rows p (60 + i) p<n (omega arith) (λ e. omega arith) (λ e. omega arith) (λ e x y. omega arith) (λ e x. omega arith))))

    winner_now : value_of (seg m₂ (row p + 56) 3) ≡ work_out (view_at m n).holdings (values_of m n) winner p
    winner_now = ap value_of (seg_same m₁ m₂ (row p + 56) 3 (λ i l. k₂.only (row p + 56 + i) (λ x y. omega arith) (λ x y. omega arith))) ∙ k₁.value ∙ a_is s (parent_is s)

    canonical_now : value_of (seg m₂ (row p + 60) 3) ≡ work_out (view_at m n).holdings (values_of m n) canonical p
    canonical_now = k₂.value ∙ b_is s (parent_is s)

    there : (x i : ℕ) → x < n → (x ≡ p → ⊥) → 56 ≤ i → i < 63 → word m₂ (row x + i) ≡ word m (row x + i)
    there x i l ne y z = k₂.only (row x + i) (λ c d. ne (omega arith)) (λ c d. omega arith) ∙ k₁.only.rows x i l (omega arith) (λ e. omega arith) (λ e. omega arith) (λ e c d. ne e) (λ e c. ne e)

    seg_there : (x o : ℕ) → x < n → (x ≡ p → ⊥) → 56 ≤ o → o ≤ 60 → value_of (seg m₂ (row x + o) 3) ≡ value_of (seg m (row x + o) 3)
    seg_there x o l ne y z = ap value_of (seg_same m m₂ (row x + o) 3 (λ i j. let e : row x + o + i ≡ row x + (o + i) = omega arith in rw e (there x (o + i) l ne (omega arith) (omega arith))))

    values_now : values_of m₂ n ≡ worked (view_at m n).holdings (values_of m n) p
    unfolding worked
    values_now = fun_ext (λ w. fun_ext (λ x. by_bool (eqb x p) (λ e. let z : x ≡ p = eqb-true x p e in rw (e, z, lt-ltb p n p<n) (here w)) (λ e. rw e (below_same n x (rows.value_at m₂ w x) (rows.value_at m w x) unlinked (λ l. away w x l (eqb-false x p e))))))
      where
        here : (w : Spine) → rows.value_at m₂ w p ≡ work_out (view_at m n).holdings (values_of m n) w p
        here winner = winner_now
        here canonical = canonical_now

        away : (w : Spine) (x : ℕ) → x < n → (x ≡ p → ⊥) → rows.value_at m₂ w x ≡ rows.value_at m w x
        away winner x l ne = seg_there x 56 l ne (omega arith) (omega arith)
        away canonical x l ne = seg_there x 60 l ne (omega arith) (omega arith)

    told_now : (r₁ || r₂) ≡ moves (view_at m n).holdings (values_of m n) p
    unfolding moves
    told_now =
        let x₁ : r₁ ≡ not (same (values_of m n winner p) (work_out (view_at m n).holdings (values_of m n) winner p)) =
        k₁.told ∙ ap (λ (z : Worth). not (same z (value_means a))) (sym was_winner) ∙ ap (λ (z : Worth). not (same (values_of m n winner p) z)) (a_is s (parent_is s)) in
        let x₂ : r₂ ≡ not (same (values_of m n canonical p) (work_out (view_at m n).holdings (values_of m n) canonical p)) =
        k₂.told ∙ ap (λ (z : Worth). not (same z (value_means b))) (mid_canonical ∙ sym was_canonical) ∙ ap (λ (z : Worth). not (same (values_of m n canonical p) z)) (b_is s (parent_is s)) in
        rw (x₁, x₂)

  pub works_out : (r : Bool) → r ≡ (r₁ || r₂) → WorksOut m m₂ n p r
  works_out r e = record {
    only = values_then m m₁ m₂ n only₁ only₂;
    right = λ s t u. record { treed = t₂ s t u; values = values_now s t u; told = e ∙ told_now s t u };
  }
