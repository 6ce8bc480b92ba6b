-- The walk along the places whose previous hash is that of one block: those that are live become pending.
use mathlib.Core.Path.{◌≡◌, refl, sym, ap, ◌∙◌}
use mathlib.Core.Bool.{Bool, true, false, ◌&&◌, ◌||◌}
use mathlib.Core.List.{List, [], ◌∷◌}
use mathlib.Core.Logic.{◌⊎◌, inl, inr}
use Prim.Native.Nat.{ℕ, ◌+◌, ◌*◌, ◌%◌, ◌≤◌, ◌<◌}
use native.Mathlib.Omega.{arith}
use lib.Dec.{eqb}
use lib.ListN.{length}
use borrow.Author.Tests.{eqb-true, eqb-false, eq-eqb}
use Rattle.model.specs.Holding.{held, is_live}
use Rattle.model.specs.Lists.{elem}
use Rattle.model.specs.Relink.{Pending, follows}
use Rattle.model.proofs.Tools.{by_bool, no_both, or_none}
use Rattle.hash.specs.Hashes.{limb}
use Rattle.block.specs.Words.{quad, hash_of, header_of}
use Rattle.memory.specs.Words.{word, seg}
use Rattle.memory.specs.Layout.{row, by_prev, Laid}
use Rattle.memory.proofs.WordLaws.{seg_same, seg-quad}
use Rattle.memory.proofs.HashWords.{seg_hash}
use Rattle.rows.specs.Rows.{header_at, held_at}
use Rattle.index.specs.Keys.{key_at}
use Rattle.index.specs.Seeks.{Seeks}
use Rattle.index.specs.Visits.{Members, Visits}
use Rattle.index.proofs.ListFacts.{in_elem, elem_in}
use Rattle.index.proofs.VisitLaws.{visits_start, visits_step, visits_done, visits_frame}
use Rattle.state.specs.View.{cells_of}
use Rattle.state.specs.Sound.{Used, SoundAt}
use Rattle.state.proofs.FindLaws.{used_is, free_is}
use Rattle.pending.specs.Pending.{Pends, PendOnly, Turns}
use Rattle.pending.proofs.PendLaws.{pend_same, pend_then, pends_same, and_false}
use Rattle.pending.proofs.TurnLaws.{pend_sound, pend_cell, LiveOne, or_swap, both}

-- ---- keys and hashes ----

-- two groups of four words with one hash are the same
seg_one : (m : List ℕ) (x y : ℕ) → ((i : ℕ) → word m i < limb) → hash_of (seg m x 4) ≡ hash_of (seg m y 4) → seg m x 4 ≡ seg m y 4
seg_one m x y wide e =
    let a = word m (y + 0) in
    let b = word m (y + 1) in
    let c = word m (y + 2) in
    let d = word m (y + 3) in
    seg_hash m x a b c d wide (record { first = wide (y + 0); second = wide (y + 1); third = wide (y + 2); fourth = wide (y + 3) }) e
    ∙ sym (seg-quad m y a b c d (ap (word m) (omega arith)) refl refl refl)

and_swap : (a b : Bool) → (a && b) ≡ (b && a)
and_swap true true = refl
and_swap true false = refl
and_swap false true = refl
and_swap false false = refl

module _ (m : List ℕ) (n p : ℕ) (k : ℕ → ℕ) (p<n : p < n) (u : Used m p) (wide : (i : ℕ) → word m i < limb) (is : seg m (row p + 4) 4 ≡ k) where
  key_hash : (q : ℕ) → key_at m 72 false q ≡ k → (header_at m (row q + 4)).prev ≡ (header_at m (row p + 4)).hash
  unfolding header_at header_of
  key_hash q e = let z : 72 + 68 * q ≡ row q + 4 + 4 = omega arith in ap hash_of (rw z at (e ∙ sym is))

  hash_key : (q : ℕ) → (header_at m (row q + 4)).prev ≡ (header_at m (row p + 4)).hash → key_at m 72 false q ≡ k
  unfolding header_at header_of
  hash_key q e = let z : row q + 4 + 4 ≡ 72 + 68 * q = omega arith in (rw z at (seg_one m (row q + 4 + 4) (row p + 4) wide e)) ∙ is

  module _ (seen : List ℕ) (l : Members n (Used m) (key_at m 72 false) k seen) where
    named : (q : ℕ) → q < n → Used m q → elem q seen ≡ eqb (header_at m (row q + 4)).prev (header_at m (row p + 4)).hash
    named q h w =
        by_bool (elem q seen)
        (λ e. e ∙ sym (eq-eqb _ _ (key_hash q (l.sound q (elem_in seen q e)).2)))
        (λ e. by_bool (eqb (header_at m (row q + 4)).prev (header_at m (row p + 4)).hash)
        (λ i. no_both (elem q seen) (in_elem seen q (l.complete q h w (hash_key q (eqb-true _ _ i)))) e) (λ i. e ∙ sym i))

    -- those seen that are live are those that follow
    seen_follow : (q : ℕ) → q < n → (elem q seen && is_live (cells_of m n q)) ≡ follows (cells_of m n p) (cells_of m n q)
    unfolding follows is_live
    seen_follow q h =
        by_bool (eqb (word m (row q)) 1)
        (λ i. let w : Used m q = eqb-true (word m (row q)) 1 i in
        rw (used_is m n q h w, used_is m n p p<n u, named q h w) (and_swap (eqb (header_at m (row q + 4)).prev (header_at m (row p + 4)).hash) (is_live (held (held_at m (row q))))))
        (λ i. let w : Used m q → ⊥ = eqb-false (word m (row q)) 1 i in
        rw (free_is m n q h w, used_is m n p p<n u) (and_false (elem q seen)))

-- ---- the walk ----

-- what a sound memory has made of the walk: the places seen, and that those that are live became pending
pub record Walked (m₀ m : List ℕ) (n : ℕ) (k : ℕ → ℕ) (x i : ℕ) : Type 0 where
  pub seen : List ℕ
  pub visits : Visits m n (by_prev n) (Used m) (key_at m 72 false) k x seen
  pub steps : length seen ≡ i
  pub pends : (pend : Pending) → Pends m₀ n pend → Pends m n (λ q. pend q || (elem q seen && is_live (cells_of m₀ n q)))

pub record Following (m₀ m : List ℕ) (n : ℕ) (k : ℕ → ℕ) (x i : ℕ) : Type 0 where
  pub only : PendOnly m₀ m n
  pub part : SoundAt m₀ n → Walked m₀ m n k x i

-- what the walk reads stays
framed : (m m' : List ℕ) (n : ℕ) {k : ℕ → ℕ} {x : ℕ} {seen : List ℕ} → PendOnly m m' n
    → Visits m n (by_prev n) (Used m) (key_at m 72 false) k x seen → Visits m' n (by_prev n) (Used m') (key_at m' 72 false) k x seen
framed m m' n {k} {x} {seen} o =
    visits_frame m m' n (by_prev n) (Used m) (Used m') (key_at m 72 false) (key_at m' 72 false)
    (λ a l h. o.before a (omega arith) (omega arith)) (λ q h u. used q h ∙ u) (λ q h u. sym (used q h) ∙ u)
    (λ q h u. seg_same m m' (72 + 68 * q) 4 (λ i l. let e : 72 + 68 * q + i ≡ row q + (8 + i) = omega arith in rw e (o.rows q (8 + i) h (omega arith) (omega arith) (omega arith))))
  where
    used : (q : ℕ) → q < n → word m' (row q) ≡ word m (row q)
    used q h = let e : row q + 0 ≡ row q = omega arith in rw e at (o.rows q 0 h (omega arith) (omega arith) (omega arith))

back : (m m' : List ℕ) (n : ℕ) → PendOnly m m' n → PendOnly m' m n
back m m' n o = record {
  long = sym o.long;
  head = λ a x. sym (o.head a x);
  rows = λ q k h x y z. sym (o.rows q k h x y z);
  before = λ a x y. sym (o.before a x y);
  after = λ a x. sym (o.after a x);
}

none_seen : (b l : Bool) (q : ℕ) → b ≡ (b || (elem q [] && l))
unfolding elem
none_seen b l q = sym (or_none b)

one_more : (seen : List ℕ) (b l : Bool) (q x : ℕ) → ((b || (elem q seen && l)) || (eqb q x && l)) ≡ (b || (elem q (x ∷ seen) && l))
unfolding elem
one_more seen b l q x = both b l (elem q seen) (eqb q x) (elem q (x ∷ seen)) (or_swap (elem q seen) (eqb q x))

pub follow_start : (m : List ℕ) (n a b c d x : ℕ) → Laid m n → Seeks m n (by_prev n) (key_at m 72 false) (by_prev n + d % n) (quad a b c d) x → Following m m n (quad a b c d) x 0
follow_start m n a b c d x laid f = record {
  only = pend_same m n;
  part = λ s. record {
    seen = [];
    visits = visits_start m n (by_prev n) (Used m) (key_at m 72 false) (quad a b c d) x laid.some s.prevs f;
    steps = refl;
    pends = λ pend y. pends_same m n pend (λ q. pend q || (elem q [] && is_live (cells_of m n q))) (λ q h. none_seen (pend q) (is_live (cells_of m n q)) q) y;
  };
}

module _ (m₀ m m' : List ℕ) (n : ℕ) (k : ℕ → ℕ) (x i r : ℕ) (laid : Laid m₀ n) (x<n : x < n) (f : Following m₀ m n k x i) (t : LiveOne m m' n x)
    (a : Seeks m' n (by_prev n) (key_at m' 72 false) (by_prev n + n + x) k r) where
  pub follow_more : Following m₀ m' n k r (i + 1)
  follow_more = record {
    only = pend_then m₀ m m' n f.only t.only;
    part = λ s.
        let w = f.part s in
        record {
          seen = x ∷ w.seen;
          visits = visits_step m' n (by_prev n) (Used m') (key_at m' 72 false) k (framed m m' n t.only w.visits) r x<n a;
          steps = let e = w.steps in omega arith;
          pends = λ pend y.
              pends_same m' n (λ q. (pend q || (elem q w.seen && is_live (cells_of m₀ n q))) || (eqb q x && is_live (cells_of m n q))) (λ q. pend q || (elem q (x ∷ w.seen) && is_live (cells_of m₀ n q)))
              (λ q h. rw (pend_cell m₀ m n laid f.only q) (one_more w.seen (pend q) (is_live (cells_of m₀ n q)) q x))
              (t.right (pend_sound m₀ m n laid f.only s) tt (λ q. pend q || (elem q w.seen && is_live (cells_of m₀ n q))) (w.pends pend y));
        };
  }

pub follow_done : (m₀ m : List ℕ) (n p a b c d x i : ℕ) → p < n → ((i : ℕ) → word m₀ i < limb) → seg m₀ (row p + 4) 4 ≡ quad a b c d
    → (n ≤ x) ⊎ (n ≤ i) → Following m₀ m n (quad a b c d) x i → Turns m₀ m n (Used m₀ p) (λ pend q. pend q || follows (cells_of m₀ n p) (cells_of m₀ n q))
follow_done m₀ m n p a b c d x i p<n wide is end f = record {
  only = f.only;
  right = λ s u pend y.
      let w = f.part s in
      let v = visits_done m₀ n (by_prev n) (Used m₀) (key_at m₀ 72 false) (quad a b c d) (framed m m₀ n (back m₀ m n f.only) w.visits) (ended w.seen w.steps end) in
      pends_same m n (λ q. pend q || (elem q w.seen && is_live (cells_of m₀ n q))) (λ q. pend q || follows (cells_of m₀ n p) (cells_of m₀ n q))
      (λ q h. ap (λ (z : Bool). pend q || z) (seen_follow m₀ n p (quad a b c d) p<n u wide is w.seen v q h)) (w.pends pend y);
}
  where
    ended : (seen : List ℕ) → length seen ≡ i → (n ≤ x) ⊎ (n ≤ i) → (n ≤ x) ⊎ (n ≤ length seen)
    ended seen e (inl h) = inl h
    ended seen e (inr h) = inr (omega arith)
