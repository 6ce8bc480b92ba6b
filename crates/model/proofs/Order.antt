-- The place that a sync takes next goes before every other pending one, and no linked block outranks the best.
use Prim.Native.Nat.{ℕ, ◌<◌}
use mathlib.Core.Path.{◌≡◌}
use mathlib.Core.Bool.{Bool, true, false}
use mathlib.Core.Option.{some}
use native.Mathlib.Omega.{arith}
use lib.Dec.{ltb}
use borrow.Author.Tests.{ltb-true, lt-ltb, le-ltb}
use Rattle.model.specs.Places.{then_by}
use Rattle.model.specs.Holding.{Cell, Holdings, index_of, hash_of}
use Rattle.model.specs.Standing.{Value, is_linked, work_of, outranks, best}
use Rattle.model.specs.Relink.{Pending, turn_of, goes_before, next}
use Rattle.model.proofs.Tools.{then_by_self, then_by_trans, pick_least}

pub less_trans : (a b c : ℕ) → ltb a b ≡ true → ltb b c ≡ true → ltb a c ≡ true
less_trans a b c e f = lt-ltb a c (omega (arith, ltb-true a b e, ltb-true b c f))

pub less_self : (a : ℕ) → ltb a a ≡ false
less_self a = le-ltb a a (omega arith)

before_self : (c : Cell) → goes_before c c ≡ false
unfolding goes_before
before_self c = then_by_self (turn_of c) _ (less_self (hash_of c))

before_trans : (c d e : Cell) → goes_before c d ≡ true → goes_before d e ≡ true → goes_before c e ≡ true
unfolding goes_before
before_trans c d e = then_by_trans (turn_of c) (turn_of d) (turn_of e) (ltb (hash_of c) (hash_of d)) (ltb (hash_of d) (hash_of e)) (ltb (hash_of c) (hash_of e)) (less_trans (hash_of c) (hash_of d) (hash_of e))

pub next_least : (h : Holdings) (pend : Pending) (p q : ℕ) → next h pend ≡ some p → pend q ≡ true → q < h.room → goes_before (h.cells q) (h.cells p) ≡ false
next_least h pend p q = pick_least pend (λ p q. goes_before (h.cells p) (h.cells q)) (λ p. before_self (h.cells p)) (λ p q r. before_trans (h.cells p) (h.cells q) (h.cells r)) h.room p q

module _ (h : Holdings) (v : ℕ → Value) where
  outranks_self : (p : ℕ) → outranks h v p p ≡ false
  unfolding outranks
  outranks_self p = then_by_self (work_of (v p)) _ (then_by_self (index_of (h.cells p)) _ (less_self (hash_of (h.cells p))))

  outranks_trans : (p q r : ℕ) → outranks h v p q ≡ true → outranks h v q r ≡ true → outranks h v p r ≡ true
  unfolding outranks
  outranks_trans p q r e f = then_by_trans (work_of (v r)) (work_of (v q)) (work_of (v p)) (rest q r) (rest p q) (rest p r) (λ e f. then_by_trans (index_of (h.cells r)) (index_of (h.cells q)) (index_of (h.cells p)) (last q r) (last p q) (last p r) (λ e f. less_trans (hash_of (h.cells p)) (hash_of (h.cells q)) (hash_of (h.cells r)) f e) e f) f e
    where
      last : ℕ → ℕ → Bool
      last p q = ltb (hash_of (h.cells p)) (hash_of (h.cells q))

      rest : ℕ → ℕ → Bool
      rest p q = then_by (index_of (h.cells q)) (index_of (h.cells p)) (last p q)

  pub best-outranks : (p q : ℕ) → best h v ≡ some p → is_linked (v q) ≡ true → q < h.room → outranks h v q p ≡ false
  best-outranks p q = pick_least (λ p. is_linked (v p)) (outranks h v) outranks_self outranks_trans h.room p q
