-- A smaller number that a turn lowers: at most n * n + n, where no two places have room for one hash. A loop over memory counts down from it.
use Prim.Native.Nat.{ℕ, ◌+◌, ◌*◌, ◌≤◌, ◌<◌}
use mathlib.Core.Path.{◌≡◌, refl, sym}
use mathlib.Core.Bool.{Bool, true, false, cond, not, ◌&&◌, ◌||◌}
use mathlib.Core.Option.{some}
use native.Mathlib.Omega.{arith}
use native.Mathlib.Nat.{mul-le-mul_left}
use lib.Dec.{eqb}
use borrow.Author.Tests.{eqb-true, eq-eqb}
use Rattle.model.specs.Places.{count, sum}
use Rattle.model.specs.Holding.{Cell, free, held, Holdings, is_live, has_room}
use Rattle.model.specs.Standing.{Values, parent}
use Rattle.model.specs.Relink.{Pending, moves, worked, follows, after, goes_before, next, settled}
use Rattle.model.proofs.Tools.{by_bool, by_option, no_both, and_right, pick_some}
use Rattle.model.proofs.Turn.{moves_not, worked_once, worked_idle}
use Rattle.model.proofs.Settled.{settled-none}
use Rattle.model.proofs.Parent.{Distinct}
use Rattle.model.proofs.Forest.{above, above_small, above_same, above_less}
use Rattle.model.proofs.Sums.{sum_moves, sum_plus, sum_scale, sum_swap, sum_below, count_one, count_below}
use Rattle.model.proofs.Turns.{index_at, rises, moves_same, count_falls}

-- how many places get pending when p changes
unfoldable pub followers : Holdings → ℕ → ℕ
followers h p = count (λ q. follows (h.cells p) (h.cells q)) h.room

-- each place that is to change, at or above p, can make p change once, and that makes p's followers pending
unfoldable pub budget : Holdings → Values → Pending → ℕ
budget h v pend = sum (λ p. followers h p * above (parent h) (index_at h) h.room (moves h v) p) h.room + count pend h.room

follow_one : (c d e : Cell) → follows c e ≡ true → follows d e ≡ true → (x : ℕ) × (has_room x c ≡ true) × (has_room x d ≡ true)
unfolding follows has_room
follow_one free d e m n = no_both false m refl
follow_one (held c) free e m n = no_both false n refl
follow_one (held c) (held d) free m n = no_both false m refl
follow_one (held c) (held d) (held e) m n =
    let i = eqb-true e.header.prev c.header.hash (and_right (is_live (held e)) (eqb e.header.prev c.header.hash) m) in
    let j = eqb-true e.header.prev d.header.hash (and_right (is_live (held e)) (eqb e.header.prev d.header.hash) n) in
    (e.header.prev, eq-eqb c.header.hash e.header.prev (sym i), eq-eqb d.header.hash e.header.prev (sym j))

module _ (h : Holdings) where
  module _ (v : Values) (pend : Pending) (p : ℕ) (pending : pend p ≡ true) (below : p < h.room) where
    pending_grows : count (after h v p pend) h.room + 1 ≤ count pend h.room + followers h p
    unfolding after followers
    pending_grows =
        omega (
          arith,
          sum_plus (λ q. cond (after h v p pend q) 1 0) (λ q. cond (pend q && not (eqb q p)) 1 0) (λ q. cond (follows (h.cells p) (h.cells q)) 1 0) h.room (λ q. go (pend q && not (eqb q p)) (moves h v p) (follows (h.cells p) (h.cells q))),
          sum_moves (λ q. cond (pend q) 1 0) (λ q. cond (pend q && not (eqb q p)) 1 0) (λ q. 0) h.room 1 p below (rw (pending, eq-eqb p p refl) (omega arith)) (λ q i. less (pend q) (not (eqb q p))),
          sum_below (λ q. 0) h.room 0 (λ q. omega arith),
        )
      where
        go : (a b c : Bool) → cond (a || b && c) 1 0 ≤ cond a 1 0 + cond c 1 0
        go true b true = omega arith
        go true b false = omega arith
        go false true true = omega arith
        go false true false = omega arith
        go false false true = omega arith
        go false false false = omega arith

        less : (a b : Bool) → cond (a && b) 1 0 ≤ cond a 1 0 + 0
        less true true = omega arith
        less true false = omega arith
        less false b = omega arith

    moved : moves h v p ≡ true → budget h (worked h v p) (after h v p pend) < budget h v pend
    unfolding budget
    moved m =
        omega (
          arith,
          pending_grows,
          sum_below (λ q. 0) h.room 0 (λ q. omega arith),
          sum_moves (λ q. followers h q * above (parent h) (index_at h) h.room (moves h v) q) (λ q. followers h q * above (parent h) (index_at h) h.room (moves h (worked h v p)) q) (λ q. 0) h.room (followers h p) p below here there,
        )
      where
        here : followers h p * above (parent h) (index_at h) h.room (moves h (worked h v p)) p + followers h p ≤ followers h p * above (parent h) (index_at h) h.room (moves h v) p
        here = omega (arith, mul-le-mul_left (followers h p) (above_less (parent h) (index_at h) (rises h) h.room p below (moves h v) (moves h (worked h v p)) m (moves_not h (worked h v p) p (worked_once h v p)) (moves_same h v pend p pending below)))

        there : (q : ℕ) → eqb q p ≡ false → followers h q * above (parent h) (index_at h) h.room (moves h (worked h v p)) q ≤ followers h q * above (parent h) (index_at h) h.room (moves h v) q + 0
        there q i = omega (arith, mul-le-mul_left (followers h q) (above_same (parent h) (index_at h) (rises h) h.room p below (moves h v) (moves h (worked h v p)) m (moves_not h (worked h v p) p (worked_once h v p)) (moves_same h v pend p pending below) q))

    idle : moves h v p ≡ false → budget h (worked h v p) (after h v p pend) < budget h v pend
    unfolding budget
    idle m = rw (worked_idle h v p m) (omega (arith, count_falls h v pend p pending below m))

  pub budget_falls : (v : Values) (pend : Pending) (p : ℕ) → next h pend ≡ some p → budget h (worked h v p) (after h v p pend) < budget h v pend
  budget_falls v pend p e = let k : (pend p ≡ true) × (p < h.room) = pick_some pend (λ p q. goes_before (h.cells p) (h.cells q)) h.room p e in by_bool (moves h v p) (moved v pend p k.0 k.1) (idle v pend p k.0 k.1)

  pub budget_end : (v : Values) (pend : Pending) → budget h v pend ≤ 0 → settled h v pend ≡ v
  budget_end v pend i = by_option (next h pend) (settled-none h v pend) (λ p e. absurd (omega (arith, budget_falls v pend p e)))

  few : Distinct h → sum (followers h) h.room ≤ h.room * 1
  unfolding followers
  few distinct =
      omega (
        arith,
        sum_swap (λ p q. cond (follows (h.cells p) (h.cells q)) 1 0) h.room h.room,
        sum_below (λ q. count (λ p. follows (h.cells p) (h.cells q)) h.room) h.room 1 (λ q. count_one (λ p. follows (h.cells p) (h.cells q)) h.room (λ a b i j. let o = follow_one (h.cells a) (h.cells b) (h.cells q) i j in distinct a b o.0 o.1 o.2)),
      )

  pub budget_start : Distinct h → (v : Values) (pend : Pending) → budget h v pend ≤ h.room * h.room + h.room
  unfolding budget
  budget_start distinct v pend =
      omega (
        arith,
        few distinct,
        mul-le-mul_left h.room (few distinct),
        count_below pend h.room,
        sum_scale (λ p. followers h p * above (parent h) (index_at h) h.room (moves h v) p) (followers h) h.room h.room (λ p. mul-le-mul_left (followers h p) (above_small (parent h) (index_at h) h.room (moves h v) p)),
      )
