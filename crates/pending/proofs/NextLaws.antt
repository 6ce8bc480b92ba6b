-- The turn of a place, and the place whose turn is next, in the model's words.
use mathlib.Core.Path.{◌≡◌, refl, sym, ap, ◌∙◌}
use mathlib.Core.Bool.{true, false, ◌&&◌}
use mathlib.Core.List.{List}
use mathlib.Core.Option.{Option, none, some}
use Prim.Native.Nat.{ℕ, ◌+◌, ◌≤◌, ◌<◌}
use native.Mathlib.Omega.{arith}
use lib.Dec.{eqb, ltb}
use borrow.Author.Tests.{ltb-true, ltb-false, eq-eqb}
use Rattle.model.specs.Places.{then_by}
use Rattle.model.specs.Holding.{Cell, free, held, is_free, is_live, hash_of, index_of}
use Rattle.model.specs.Relink.{Pending, turn_of, goes_before, next}
use Rattle.model.proofs.Tools.{by_bool, by_option, no_both, or_left, or_right, pick_some, pick-none}
use Rattle.model.proofs.Order.{next_least}
use Rattle.block.specs.Words.{header_of}
use Rattle.memory.specs.Words.{word}
use Rattle.memory.specs.Layout.{row}
use Rattle.rows.specs.Rows.{header_at}
use Rattle.contest.specs.Tree.{Champion}
use Rattle.contest.specs.Keys as keys
use Rattle.contest.specs.Contests as contest
use Rattle.contest.proofs.Uses.{is_in_lem, nobody, none_sooner}
use Rattle.state.specs.View.{cells_of, view_at}
use Rattle.state.specs.Sound.{Used, hash_at, SoundAt, placed}
use Rattle.state.proofs.FindLaws.{used_is, cell_used, placed_in, placed_out}
use Rattle.pending.specs.Pending.{Pends}

-- ---- a place that has room, in words ----

live_room : (c : Cell) → is_live c ≡ true → is_free c ≡ false
unfolding is_live is_free
live_room free e = sym e
live_room (held h) e = refl

module _ (m : List ℕ) (n p : ℕ) where
  -- a live block has room
  pub live_used : is_live (cells_of m n p) ≡ true → Used m p
  live_used e = (cell_used m n p (live_room (cells_of m n p) e)).1

  module _ (p<n : p < n) (u : Used m p) where
    pub hash_is : hash_of (cells_of m n p) ≡ hash_at m p
    hash_is = ap hash_of (used_is m n p p<n u)

    index_is : index_of (cells_of m n p) ≡ word m (row p + 12)
    unfolding header_at header_of
    index_is = ap index_of (used_is m n p p<n u) ∙ ap (word m) (omega arith)

  pub turn_live : p < n → is_live (cells_of m n p) ≡ true → word m (row p + 12) ≡ turn_of (cells_of m n p)
  turn_live p<n e = rw e (sym (index_is p<n (live_used e)))

-- ---- whose turn is next ----

-- two that no one of them goes before the other have one hash
neither : (a b x y : ℕ) → then_by a b (ltb x y) ≡ false → then_by b a (ltb y x) ≡ false → x ≡ y
neither a b x y e f =
    let i : b ≤ a = ltb-false a b (or_left (ltb a b) (eqb a b && ltb x y) e) in
    let j : a ≤ b = ltb-false b a (or_left (ltb b a) (eqb b a && ltb y x) f) in
    let z : a ≡ b = omega arith in
    let k : y ≤ x = ltb-false x y (rw (eq-eqb a b z) at (or_right (ltb a b) (eqb a b && ltb x y) e)) in
    let l : x ≤ y = ltb-false y x (rw (eq-eqb b a (sym z)) at (or_right (ltb b a) (eqb b a && ltb y x) f)) in
    omega arith

module _ (m : List ℕ) (n r : ℕ) (c : Champion n (contest.view m n 2) r) (s : SoundAt m n) (pend : Pending) (a : Pends m n pend) where
  -- the contest's order is the model's, of places that are pending
  order_is : (p q : ℕ) → p < n → q < n → pend p ≡ true → pend q ≡ true → keys.sooner m p q ≡ goes_before (cells_of m n p) (cells_of m n q)
  unfolding keys.sooner keys.hash_at goes_before header_at header_of
  order_is p q lp lq ep eq = rw (a.turns p lp ep, a.turns q lq eq, hash_is m n p lp (a.used p lp ep), hash_is m n q lq (a.used q lq eq))

  one_hash : (p q : ℕ) → p < n → q < n → pend p ≡ true → pend q ≡ true → goes_before (cells_of m n p) (cells_of m n q) ≡ false → goes_before (cells_of m n q) (cells_of m n p) ≡ false → p ≡ q
  unfolding goes_before
  one_hash p q lp lq ep eq e f =
      s.keys p q lp lq (a.used p lp ep) (a.used q lq eq)
      (sym (hash_is m n p lp (a.used p lp ep))
      ∙ neither (turn_of (cells_of m n p)) (turn_of (cells_of m n q)) (hash_of (cells_of m n p)) (hash_of (cells_of m n q)) e f
      ∙ hash_is m n q lq (a.used q lq eq))

  there : r < n → next (view_at m n).holdings pend ≡ some r
  unfolding view_at
  there l =
      let er : pend r ≡ true = sym (a.members r l) ∙ is_in_lem m n 2 r c l in
      by_option (next (view_at m n).holdings pend)
      (λ e. no_both (pend r) er (pick-none pend (λ p q. goes_before (cells_of m n p) (cells_of m n q)) n r e l))
      (λ p e. let k = pick_some pend (λ p q. goes_before (cells_of m n p) (cells_of m n q)) n p e in
      e ∙ ap {B = Option ℕ} some
      (one_hash p r k.1 l k.0 er
      (sym (order_is p r k.1 l k.0 er) ∙ none_sooner m n 2 r c refl l p k.1 (a.members p k.1 ∙ k.0))
      (next_least (view_at m n).holdings pend p r e er l)))

  nowhere : n ≤ r → next (view_at m n).holdings pend ≡ none
  unfolding view_at
  nowhere l =
      by_option (next (view_at m n).holdings pend) (λ e. e)
      (λ p e. let k = pick_some pend (λ p q. goes_before (cells_of m n p) (cells_of m n q)) n p e in
      no_both (pend p) k.0 (sym (a.members p k.1) ∙ nobody m n 2 r c l p k.1))

  pub first_done : next (view_at m n).holdings pend ≡ placed n r
  first_done = by_bool (ltb r n) (λ e. let l = ltb-true r n e in there l ∙ sym (placed_in n r l)) (λ e. let l = ltb-false r n e in nowhere l ∙ sym (placed_out n r l))
