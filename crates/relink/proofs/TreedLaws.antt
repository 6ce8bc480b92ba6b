-- What a sync keeps stays where the words that it is read off are as they were.
use mathlib.Core.Path.{◌≡◌, refl, sym, ap, ◌∙◌}
use mathlib.Core.Bool.{Bool, true, false, ◌&&◌}
use mathlib.Core.List.{List}
use Prim.Native.Nat.{ℕ, zero, suc, ◌+◌, ◌*◌, ◌-◌, ◌≤◌, ◌<◌}
use native.Mathlib.Omega.{arith}
use lib.Dec.{eqb}
use Rattle.model.specs.Record.{Header}
use Rattle.model.specs.Holding.{Cell, free, held, is_free, index_of}
use Rattle.model.specs.Standing.{names}
use Rattle.model.proofs.Tools.{no_both}
use Rattle.memory.specs.Words.{word}
use Rattle.memory.specs.Layout.{row, nodes, leaves_at, vacant_at, Laid}
use Rattle.contest.specs.Keys.{enters, mark}
use Rattle.contest.proofs.KeyLaws.{enters_kept}
use Rattle.contest.proofs.Uses.{Same, still}
use Rattle.roster.proofs.RosterLaws.{roster_same, roster_frame}
use Rattle.rows.specs.Rows.{header_at}
use Rattle.state.specs.View.{cells_of}
use Rattle.state.specs.Sound.{Used}
use Rattle.state.proofs.ViewLaws.{header_same}
use Rattle.state.proofs.FindLaws.{used_is, cell_used}
use Rattle.kin.specs.Kin.{linked_at, up_at, kids_at, Kin}
use Rattle.pending.specs.Pending.{PendOnly}
use Rattle.kin.proofs.RelinkLaws.{count_agree}
use Rattle.relink.specs.Treed.{Above, Listless, Treed, TreedWords}

-- to name, and an index, are of headers alone
abbrev head_names : Header → Header → Bool
head_names c d = eqb d.hash c.prev && eqb (suc d.index) c.index

pub names_used : (m : List ℕ) (n p q : ℕ) → p < n → q < n → Used m p → Used m q → names (cells_of m n p) (cells_of m n q) ≡ head_names (header_at m (row p + 4)) (header_at m (row q + 4))
unfolding names
names_used m n p q h l u v = rw (used_is m n p h u, used_is m n q l v)

pub index_used : (m : List ℕ) (n p : ℕ) → p < n → Used m p → index_of (cells_of m n p) ≡ (header_at m (row p + 4)).index
index_used m n p h u = rw (used_is m n p h u)

-- one that names has room, and so has one that is named
names_both : (c d : Cell) → names c d ≡ true → (is_free c ≡ false) × (is_free d ≡ false)
unfolding names is_free
names_both free d e = no_both false e refl
names_both (held c) free e = no_both false e refl
names_both (held c) (held d) e = (refl, refl)

-- children and leaves are read off words 56, 64, 66 and 67 of rows and the roster of leaves
module _ (m m' : List ℕ) (n : ℕ) (size : word m' 14 ≡ word m 14)
    (rows : (q k : ℕ) → q < n → 56 ≤ k → k < 68 → (59 ≤ k → k < 64 → ⊥) → (k ≡ 65 → ⊥) → word m' (row q + k) ≡ word m (row q + k))
    (list : (a : ℕ) → leaves_at n ≤ a → a < vacant_at n → word m' a ≡ word m a) where
  pub linked_same : (q : ℕ) → q < n → linked_at m' q ≡ linked_at m q
  linked_same q h = enters_kept m m' 0 q (rows q 56 h (omega arith) (omega arith) (λ x y. omega arith) (λ e. omega arith))

  pub up_same : (q : ℕ) → q < n → up_at m' q ≡ up_at m q
  up_same q h = rows q 67 h (omega arith) (omega arith) (λ x y. omega arith) (λ e. omega arith)

  kids_same : (q : ℕ) → q < n → kids_at m' q ≡ kids_at m q
  kids_same q h = rows q 64 h (omega arith) (omega arith) (λ x y. omega arith) (λ e. omega arith)

  pub kin_frame : Kin m n → Kin m' n
  kin_frame k = record {
    counts = λ q h. kids_same q h ∙ k.counts q h ∙ count_agree (λ p. linked_at m p && eqb (up_at m p) q) (λ p. linked_at m' p && eqb (up_at m' p) q) n (λ p l. rw (linked_same p l, up_same p l));
    roster = roster_frame m m' n (leaves_at n) 14 130 size (λ i h. list (leaves_at n + i) (omega arith) (omega arith)) position k.roster;
    leaf = λ q h. roster_same m m' n (leaves_at n) 14 130 size (λ i l. list (leaves_at n + i) (omega arith) (omega arith)) position q h ∙ k.leaf q h ∙ (let a = linked_same q h in let b = kids_same q h in rw (a, b));
  }
    where
      position : (q : ℕ) → q < n → word m' (130 + 68 * q) ≡ word m (130 + 68 * q)
      position q h = let z : 130 + 68 * q ≡ row q + 66 = omega arith in rw z (rows q 66 h (omega arith) (omega arith) (λ x y. omega arith) (λ e. omega arith))

-- the contest of listed leaves stays empty where its words are as they were
pub listless_same : (m m' : List ℕ) (n : ℕ) → Laid m n → ((q : ℕ) → q < n → word m' (row q + 63) ≡ word m (row q + 63)) → ((j : ℕ) → j < n → word m' (nodes n 4 + j) ≡ word m (nodes n 4 + j)) → Listless m n → Listless m' n
listless_same m m' n laid marks node l = record {
  tree = still m m' n 4 laid.few (record { node = node; marks = marks; keys = λ q h e. no_both true refl (sym e ∙ l.none q h) }) l.tree;
  none = λ q h. enters_kept m m' 4 q (marks q h) ∙ l.none q h;
}

module _ (m m' : List ℕ) (n : ℕ) (laid : Laid m n) (t : Treed m n) (w : TreedWords m m' n) where
  canonical_same : (q : ℕ) → q < n → enters m' 1 q ≡ enters m 1 q
  canonical_same q h = enters_kept m m' 1 q (w.rows q 60 h (omega arith) (omega arith) (λ i. omega arith) (λ i. omega arith) (λ i. omega arith))

  tail : (q k : ℕ) → q < n → 56 ≤ k → k < 68 → (59 ≤ k → k < 64 → ⊥) → (k ≡ 65 → ⊥) → word m' (row q + k) ≡ word m (row q + k)
  tail q k h x y z v = w.rows q k h x y (λ e. z (omega arith) (omega arith)) (λ e. z (omega arith) (omega arith)) v

  list : (a : ℕ) → leaves_at n ≤ a → a < vacant_at n → word m' a ≡ word m a
  list a x y = w.leaves a x y

  linked_kept : (q : ℕ) → q < n → linked_at m' q ≡ linked_at m q
  linked_kept = linked_same m m' n w.size tail list

  up_kept : (q : ℕ) → q < n → up_at m' q ≡ up_at m q
  up_kept = up_same m m' n w.size tail list

  header_kept : (q : ℕ) → q < n → Used m q → header_at m' (row q + 4) ≡ header_at m (row q + 4)
  header_kept q h u = header_same m m' (row q + 4) (λ a x y. let f : (k : ℕ) → a ≡ row q + k → word m' a ≡ word m a = λ k e. rw e (w.headers q k h u (omega arith) (omega arith)) in f (a - row q) (omega arith))

  -- ---- contests ----

  rank_words : (k : ℕ) → k < 2 → Same n k m m'
  rank_words k l = record {
    node = λ j h. w.ranks (nodes n k + j) (node_from k l j h) (node_to k l j h);
    marks = λ q h. marked k l q h;
    keys = λ q h e. record {
      hash = λ a i x y. w.headers q i h (in_use k l q h e) (omega arith) (omega arith);
      turn = λ a. absurd (omega arith);
      index = λ a b. w.headers q 12 h (in_use k l q h e) (omega arith) (omega arith);
      winner = λ a b c i x y. w.rows q i h (omega arith) (omega arith) (λ z. omega arith) (λ z. omega arith) (λ z. omega arith);
      canonical = λ a i x y. w.rows q i h (omega arith) (omega arith) (λ z. omega arith) (λ z. omega arith) (λ z. omega arith);
    };
  }
    where
      node_from : (k : ℕ) → k < 2 → (j : ℕ) → j < n → nodes n 0 ≤ nodes n k + j
      node_from zero l j h = omega arith
      node_from (suc zero) l j h = omega arith
      node_from (suc (suc k)) l j h = absurd (omega arith)

      node_to : (k : ℕ) → k < 2 → (j : ℕ) → j < n → nodes n k + j < nodes n 2
      node_to zero l j h = omega arith
      node_to (suc zero) l j h = omega arith
      node_to (suc (suc k)) l j h = absurd (omega arith)

      marked : (k : ℕ) → k < 2 → (q : ℕ) → q < n → word m' (row q + mark k) ≡ word m (row q + mark k)
      marked zero l q h = w.rows q 56 h (omega arith) (omega arith) (λ i. omega arith) (λ i. omega arith) (λ i. omega arith)
      marked (suc zero) l q h = w.rows q 60 h (omega arith) (omega arith) (λ i. omega arith) (λ i. omega arith) (λ i. omega arith)
      marked (suc (suc k)) l q h = absurd (omega arith)

      in_use : (k : ℕ) → k < 2 → (q : ℕ) → q < n → enters m k q ≡ true → Used m q
      in_use zero l q h e = t.linked q h e
      in_use (suc zero) l q h e = t.canonical q h e
      in_use (suc (suc k)) l q h e = absurd (omega arith)

  -- ---- parents ----

  above_same : (p : ℕ) → p < n → linked_at m' p ≡ true → Above m' n p
  above_same p h e = record {
    named = λ l. rw (up_kept p h) (named (rw (up_kept p h) at l));
    root = λ l. index_used m' n p h here ∙ ap (λ (x : Header). x.index) (header_kept p h (t.linked p h was)) ∙ sym (index_used m n p h (t.linked p h was)) ∙ (t.above p h was).root (rw (up_kept p h) at l);
  }
    where
      was : linked_at m p ≡ true
      was = sym (linked_kept p h) ∙ e

      here : Used m' p
      here = w.linked p h was

      named : up_at m p < n → names (cells_of m' n p) (cells_of m' n (up_at m p)) ≡ true
      named l =
          let u : Used m (up_at m p) = (cell_used m n (up_at m p) (names_both (cells_of m n p) (cells_of m n (up_at m p)) ((t.above p h was).named l)).1).1 in
          names_used m' n p (up_at m p) h l here (w.parents p h was l)
          ∙ (rw (header_kept p h (t.linked p h was), header_kept (up_at m p) l u))
          ∙ sym (names_used m n p (up_at m p) h l (t.linked p h was) u) ∙ (t.above p h was).named l

  pub treed_frame : Treed m' n
  treed_frame = record {
    winners = still m m' n 0 laid.few (rank_words 0 (omega arith)) t.winners;
    canonicals = still m m' n 1 laid.few (rank_words 1 (omega arith)) t.canonicals;
    kin = kin_frame m m' n w.size tail list t.kin;
    linked = λ p h e. w.linked p h (sym (linked_kept p h) ∙ e);
    canonical = λ p h e. w.canonical p h (sym (canonical_same p h) ∙ e);
    above = above_same;
    listless = w.listless t.listless;
  }

-- the parent of a linked place has room
pub parent_used : (m : List ℕ) (n : ℕ) → Treed m n → (q : ℕ) → q < n → linked_at m q ≡ true → up_at m q < n → Used m (up_at m q)
parent_used m n t q h e l = (cell_used m n (up_at m q) (names_both (cells_of m n q) (cells_of m n (up_at m q)) ((t.above q h e).named l)).1).1

-- steps of the contest of turns leave all of it
pub pend_words : (m m' : List ℕ) (n : ℕ) → Laid m n → Treed m n → PendOnly m m' n → TreedWords m m' n
pend_words m m' n laid t o = record {
  long = o.long;
  size = o.head 14 (omega arith);
  rows = λ q k h x y z u v. o.rows q k h y (λ e. omega arith) z;
  headers = λ q k h u x y. o.rows q k h (omega arith) (λ e. omega arith) (λ e. omega arith);
  ranks = λ a x y. o.before a (omega arith) y;
  leaves = λ a x y. o.after a (omega arith);
  linked = λ q h e. used q h (t.linked q h e);
  canonical = λ q h e. used q h (t.canonical q h e);
  parents = λ q h e l. used (up_at m q) l (parent_used m n t q h e l);
  listless = listless_same m m' n laid (λ q h. o.rows q 63 h (omega arith) (λ e. omega arith) (λ e. omega arith)) (λ j h. o.after (nodes n 4 + j) (omega arith));
}
  where
    used : (q : ℕ) → q < n → Used m q → Used m' q
    used q h u = let z : row q + 0 ≡ row q = omega arith in let e : word m' (row q + 0) ≡ word m (row q + 0) = o.rows q 0 h (omega arith) (λ e. omega arith) (λ e. omega arith) in (rw z at e) ∙ u
