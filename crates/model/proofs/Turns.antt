-- A turn of a sync lowers a number that begins at most at `turns`: so the turns come to an end, for any holdings, values and pending places.
use Prim.Native.Nat.{ℕ, suc, ◌+◌, ◌*◌, ◌≤◌, ◌<◌}
use mathlib.Core.Path.{◌≡◌, refl}
use mathlib.Core.Bool.{Bool, true, false, cond, not, ◌&&◌}
use mathlib.Core.Option.{some}
use native.Mathlib.Omega.{arith}
use native.Mathlib.Nat.{mul-le-mul_left}
use lib.Dec.{eqb}
use borrow.Author.Tests.{eq-eqb}
use Rattle.model.specs.Places.{count, sum}
use Rattle.model.specs.Holding.{Holdings, index_of}
use Rattle.model.specs.Standing.{winner, canonical, Values, parent}
use Rattle.model.specs.Relink.{Pending, moves, worked, after, goes_before, next, turns}
use Rattle.model.proofs.Tools.{by_bool, or_none, pick_some}
use Rattle.model.proofs.Turn.{names_index, parent-some, moves_not, worked_there, worked_once, worked_idle, work_elsewhere}
use Rattle.model.proofs.Forest.{above, above_small, dues_fall}
use Rattle.model.proofs.Sums.{sum_moves, sum_below, count_below}

abbrev pub index_at : Holdings → ℕ → ℕ
index_at h q = index_of (h.cells q)

-- for each place the places above it that are to change, all times as many as can get pending by one change; and the pending ones
unfoldable pub bound : Holdings → Values → Pending → ℕ
bound h v pend = suc h.room * sum (above (parent h) (index_at h) h.room (moves h v)) h.room + count pend h.room

module _ (h : Holdings) where
  pub rises : (q p : ℕ) → parent h q ≡ some p → index_at h q ≡ suc (index_at h p)
  rises q p e = names_index (h.cells q) (h.cells p) (parent-some h q p e).0

  module _ (v : Values) (pend : Pending) (p : ℕ) (pending : pend p ≡ true) (below : p < h.room) where
    -- a place that does not name p is to change after the turn exactly if it was before
    pub moves_same : (q : ℕ) → eqb q p ≡ false → (parent h q ≡ some p → ⊥) → moves h (worked h v p) q ≡ moves h v q
    unfolding moves
    moves_same q i k = rw (worked_there h v p winner q i, worked_there h v p canonical q i, work_elsewhere h v p winner q k, work_elsewhere h v p canonical q k)

    -- a turn that changes nothing leaves one pending place less
    after_idle : moves h v p ≡ false → (q : ℕ) → after h v p pend q ≡ (pend q && not (eqb q p))
    unfolding after
    after_idle m q = rw m (or_none (pend q && not (eqb q p)))

    pub count_falls : moves h v p ≡ false → count (after h v p pend) h.room < count pend h.room
    count_falls m = omega (arith, sum_moves (λ q. cond (pend q) 1 0) (λ q. cond (after h v p pend q) 1 0) (λ q. 0) h.room 1 p below here there, sum_below (λ q. 0) h.room 0 (λ q. omega arith))
      where
        here : cond (after h v p pend p) 1 0 + 1 ≤ cond (pend p) 1 0
        here = rw (after_idle m p, pending, eq-eqb p p refl) (omega arith)

        there : (q : ℕ) → eqb q p ≡ false → cond (after h v p pend q) 1 0 ≤ cond (pend q) 1 0 + 0
        there q i = rw (after_idle m q, i) (same_count (pend q))
          where
            same_count : (b : Bool) → cond (b && true) 1 0 ≤ cond b 1 0 + 0
            same_count true = omega arith
            same_count false = omega arith

    -- whichever pending place has its turn
    turn_bound : bound h (worked h v p) (after h v p pend) < bound h v pend
    unfolding bound
    turn_bound = by_bool (moves h v p) moved idle
      where
        moved : moves h v p ≡ true → bound h (worked h v p) (after h v p pend) < bound h v pend
        moved m =
            let d = dues_fall (parent h) (index_at h) rises h.room p below (moves h v) (moves h (worked h v p)) m (moves_not h (worked h v p) p (worked_once h v p)) moves_same in
            omega (arith, mul-le-mul_left (suc h.room) d, count_below (after h v p pend) h.room)

        idle : moves h v p ≡ false → bound h (worked h v p) (after h v p pend) < bound h v pend
        idle m = rw (worked_idle h v p m) (omega (arith, count_falls m))

  -- each turn leaves fewer: a measure for a loop that takes them
  pub turns_fall : (v : Values) (pend : Pending) (p : ℕ) → next h pend ≡ some p → bound h (worked h v p) (after h v p pend) < bound h v pend
  turns_fall v pend p e = let k : (pend p ≡ true) × (p < h.room) = pick_some pend (λ p q. goes_before (h.cells p) (h.cells q)) h.room p e in turn_bound v pend p k.0 k.1

  -- and to begin with it is at most what `settled` allows
  pub turns_start : (v : Values) (pend : Pending) → bound h v pend ≤ turns h.room
  unfolding bound turns
  turns_start v pend = omega (arith, mul-le-mul_left (suc h.room) (sum_below (above (parent h) (index_at h) h.room (moves h v)) h.room h.room (above_small (parent h) (index_at h) h.room (moves h v))), count_below pend h.room)
