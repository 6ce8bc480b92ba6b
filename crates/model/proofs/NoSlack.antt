-- Whatever finds a first place finds the one that the model takes: the next of a sync, the best, the place of a hash, the parent. For code that looks in another order.
use Prim.Native.Nat.{ℕ, ◌≤◌, ◌<◌}
use mathlib.Core.Path.{◌≡◌, refl, ◌∙◌, ap}
use mathlib.Core.Bool.{Bool, true, false, ◌&&◌}
use mathlib.Core.Option.{Option, some}
use native.Mathlib.Omega.{arith}
use lib.Dec.{eqb, ltb}
use borrow.Author.Tests.{eq-eqb, ltb-false}
use Rattle.model.specs.Places.{then_by}
use Rattle.model.specs.Holding.{Cell, free, held, Holdings, is_free, has_room, is_live, place_of, index_of, hash_of}
use Rattle.model.specs.Standing.{Value, is_linked, names, parent, work_of, outranks, best}
use Rattle.model.specs.Relink.{Pending, turn_of, goes_before, next}
use Rattle.model.proofs.Tools.{by_option, no_both, and_left, or_left, or_right, first_only, pick_some, pick-none}
use Rattle.model.proofs.Order.{next_least, best-outranks}
use Rattle.model.proofs.Parent.{Distinct, named_one}

-- neither goes before the other: the numbers are the same, and the rest goes either way no more
pub then_by_tie : (a b : ℕ) (r s : Bool) → then_by a b r ≡ false → then_by b a s ≡ false → (r ≡ false) × (s ≡ false)
then_by_tie a b r s e f =
    let i : b ≤ a = ltb-false a b (or_left (ltb a b) (eqb a b && r) e) in
    let j : a ≤ b = ltb-false b a (or_left (ltb b a) (eqb b a && s) f) in
    (rw (eq-eqb a b (omega arith)) at (or_right (ltb a b) (eqb a b && r) e), rw (eq-eqb b a (omega arith)) at (or_right (ltb b a) (eqb b a && s) f))

pub less_tie : (a b : ℕ) → ltb a b ≡ false → ltb b a ≡ false → a ≡ b
less_tie a b e f = omega (arith, ltb-false a b e, ltb-false b a f)

own_room : (c : Cell) → is_free c ≡ false → has_room (hash_of c) c ≡ true
unfolding has_room is_free
own_room free e = no_both true refl e
own_room (held c) e = eq-eqb c.header.hash c.header.hash refl

module _ (h : Holdings) (distinct : Distinct h) where
  pub one_place : (p q : ℕ) → is_free (h.cells p) ≡ false → is_free (h.cells q) ≡ false → hash_of (h.cells p) ≡ hash_of (h.cells q) → p ≡ q
  one_place p q e f z = distinct p q (hash_of (h.cells q)) (rw z at (own_room (h.cells p) e)) (own_room (h.cells q) f)

  -- a pending place that no pending one goes before
  pub next_only : (pend : Pending) → ((q : ℕ) → pend q ≡ true → is_free (h.cells q) ≡ false) → (p : ℕ) → pend p ≡ true → p < h.room
      → ((q : ℕ) → pend q ≡ true → q < h.room → goes_before (h.cells q) (h.cells p) ≡ false) → next h pend ≡ some p
  unfolding goes_before
  next_only pend taken p b i k = by_option (next h pend) (λ e. no_both (pend p) b (pick-none pend (λ p q. goes_before (h.cells p) (h.cells q)) h.room p e i)) one
    where
      one : (r : ℕ) → next h pend ≡ some r → next h pend ≡ some p
      one r e =
          let m : (pend r ≡ true) × (r < h.room) = pick_some pend (λ p q. goes_before (h.cells p) (h.cells q)) h.room r e in
          let t = then_by_tie (turn_of (h.cells r)) (turn_of (h.cells p)) (ltb (hash_of (h.cells r)) (hash_of (h.cells p))) (ltb (hash_of (h.cells p)) (hash_of (h.cells r))) (k r m.0 m.1) (next_least h pend r p e b i) in
          e ∙ ap {B = Option ℕ} some (one_place r p (taken r m.0) (taken p b) (less_tie (hash_of (h.cells r)) (hash_of (h.cells p)) t.0 t.1))

  -- a linked place that no linked one outranks
  pub best_only : (v : ℕ → Value) → ((q : ℕ) → is_linked (v q) ≡ true → is_free (h.cells q) ≡ false) → (p : ℕ) → is_linked (v p) ≡ true → p < h.room
      → ((q : ℕ) → is_linked (v q) ≡ true → q < h.room → outranks h v q p ≡ false) → best h v ≡ some p
  unfolding outranks
  best_only v taken p b i k = by_option (best h v) (λ e. no_both (is_linked (v p)) b (pick-none (λ p. is_linked (v p)) (outranks h v) h.room p e i)) one
    where
      last : ℕ → ℕ → Bool
      last p q = ltb (hash_of (h.cells p)) (hash_of (h.cells q))

      rest : ℕ → ℕ → Bool
      rest p q = then_by (index_of (h.cells q)) (index_of (h.cells p)) (last p q)

      one : (r : ℕ) → best h v ≡ some r → best h v ≡ some p
      one r e =
          let m : (is_linked (v r) ≡ true) × (r < h.room) = pick_some (λ p. is_linked (v p)) (outranks h v) h.room r e in
          let t = then_by_tie (work_of (v p)) (work_of (v r)) (rest r p) (rest p r) (k r m.0 m.1) (best-outranks h v r p e b i) in
          let u = then_by_tie (index_of (h.cells p)) (index_of (h.cells r)) (last r p) (last p r) t.0 t.1 in
          e ∙ ap {B = Option ℕ} some (one_place r p (taken r m.0) (taken p b) (less_tie (hash_of (h.cells r)) (hash_of (h.cells p)) u.0 u.1))

  -- a place with room for the hash
  pub place_only : (x p : ℕ) → has_room x (h.cells p) ≡ true → p < h.room → place_of h x ≡ some p
  unfolding place_of
  place_only x p e i = first_only (λ p. has_room x (h.cells p)) h.room p e i (λ q f. distinct q p x f e)

  -- a live place that is named
  pub parent_only : (p q : ℕ) → names (h.cells p) (h.cells q) ≡ true → is_live (h.cells q) ≡ true → q < h.room → parent h p ≡ some q
  unfolding parent
  parent_only p q n l i = first_only (λ q. names (h.cells p) (h.cells q) && is_live (h.cells q)) h.room q (rw (n, l)) i (λ r m. named_one h distinct p r q (and_left (names (h.cells p) (h.cells r)) (is_live (h.cells r)) m) n)
