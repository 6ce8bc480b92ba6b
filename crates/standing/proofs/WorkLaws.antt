-- Working a place out (document 01, "Standing in the tree"): which blocks may be linked, the rule above index 0, and the value by the header read.
use mathlib.Core.Path.{◌≡◌, refl, sym, ap, ◌∙◌}
use mathlib.Core.Bool.{Bool, true, false, ◌&&◌}
use mathlib.Core.List.{List}
use mathlib.Core.Option.{Option}
use Prim.Native.Nat.{ℕ, zero, suc, ◌+◌, ◌≤◌, ◌<◌}
use native.Mathlib.Omega.{arith}
use lib.Dec.{eqb, ltb}
use borrow.Author.Tests.{eqb-true, eqb-false, ne_eqb, le-ltb, lt-ltb}
use Rattle.amount.specs.Amounts.{readable, limit}
use Rattle.memory.specs.Words.{word, seg}
use Rattle.memory.specs.Layout.{row}
use Rattle.model.specs.Record.{Header}
use Rattle.model.specs.Holding.{Cell, free, held, is_live, is_canonical, answer_of}
use Rattle.model.specs.Standing.{Spine, winner, canonical, Value, unlinked, linked, meets_target, not_ineligible, may, on_parent, on_actual, standing, parent, value_at}
use Rattle.model.specs.Relink.{work_out}
use Rattle.model.proofs.Tools.{by_bool, no_both}
use Rattle.rows.specs.Rows.{header_at, held_at, value_of}
use Rattle.state.specs.View.{cells_of, values_of, view_at}
use Rattle.state.specs.Sound.{Used, placed}
use Rattle.state.proofs.FindLaws.{placed_out, used_is, free_is}
use Rattle.standing.specs.Work.{may_stand}

-- ---- who may be linked ----

pub may_canonical : (c : Cell) → is_canonical c ≡ may_stand canonical c
unfolding is_canonical
may_canonical free = refl
may_canonical (held c) = refl

pub may_dead : (c : Cell) → is_live c ≡ false → false ≡ may_stand winner c
may_dead free e = refl
may_dead (held c) e = rw e

answered : (a : ℕ) → ltb a 2 ≡ not_ineligible (answer_of a)
answered zero = refl
answered (suc zero) = refl
answered (suc (suc a)) = rw (le-ltb (suc (suc a)) 2 (omega arith), ne_eqb (suc (suc a)) 0 (omega arith), ne_eqb (suc (suc a)) 1 (omega arith))

module _ (m : List ℕ) (n p : ℕ) (below : p < n) where
  -- by whether the row is used
  by_used : {P : Type 0} → (Used m p → P) → ((Used m p → ⊥) → P) → P
  by_used f g = by_bool (eqb (word m (row p)) 1) (λ e. f (eqb-true (word m (row p)) 1 e)) (λ e. g (eqb-false (word m (row p)) 1 e))

  pub may_live : is_live (cells_of m n p) ≡ true → ltb (word m (row p + 1)) 2 ≡ may_stand winner (cells_of m n p)
  unfolding is_live
  may_live e =
      by_used
      (λ u. let l : is_live (held (held_at m (row p))) ≡ true = rw (used_is m n p below u) at e in rw (used_is m n p below u, l) (answered (word m (row p + 1))))
      (λ u. no_both false (rw (free_is m n p below u) at e) refl)

  -- ---- one place ----

  pub barred : (w : Spine) (v : Value) → may_stand w (cells_of m n p) ≡ false → unlinked ≡ standing w (cells_of m n p) v
  unfolding standing
  barred w v e = go (cells_of m n p) e
    where
      go : (c : Cell) → may_stand w c ≡ false → unlinked ≡ standing w c v
      go free e = refl
      go (held c) e = rw e

  pub allowed : (w : Spine) (v : Value) → may_stand w (cells_of m n p) ≡ true → on_actual (header_at m (row p + 4)) v (header_at m (row p + 4)).actual ≡ standing w (cells_of m n p) v
  unfolding standing
  allowed w v e =
      by_used
      (λ u. let l : may w (held_at m (row p)) ≡ true = rw (used_is m n p below u) at e in rw (used_is m n p below u, l))
      (λ u. no_both false (rw (free_is m n p below u) at e) refl)

  -- ---- by the values that stand ----

  module _ (q : ℕ) (w : Spine) (named : parent (view_at m n).holdings p ≡ placed n q) where
    stands : standing w (cells_of m n p) (value_at (values_of m n w) (placed n q)) ≡ work_out (view_at m n).holdings (values_of m n) w p
    unfolding work_out view_at
    stands = ap (λ (o : Option ℕ). standing w (cells_of m n p) (value_at (values_of m n w) o)) (sym named)

    pub work_barred : may_stand w (cells_of m n p) ≡ false → unlinked ≡ work_out (view_at m n).holdings (values_of m n) w p
    work_barred e = barred w (value_at (values_of m n w) (placed n q)) e ∙ stands

    pub work_done : may_stand w (cells_of m n p) ≡ true → (b : Header) → b ≡ header_at m (row p + 4) → (v : Value) → v ≡ value_at (values_of m n w) (placed n q)
        → (x : Value) → x ≡ on_actual b v b.actual → x ≡ work_out (view_at m n).holdings (values_of m n) w p
    work_done e b f v g x h =
        h ∙ ap (λ (b : Header). on_actual b v b.actual) f ∙ ap (λ (v : Value). on_actual (header_at m (row p + 4)) v (header_at m (row p + 4)).actual) g
        ∙ allowed w (value_at (values_of m n w) (placed n q)) e ∙ stands

-- ---- the value below ----

module _ (m : List ℕ) (n q : ℕ) where
  pub below_none : (w : Spine) → n ≤ q → unlinked ≡ value_at (values_of m n w) (placed n q)
  below_none w h = ap (value_at (values_of m n w)) (sym (placed_out n q h))

  pub below_winner : q < n → value_of (seg m (row q + 56) 3) ≡ value_at (values_of m n winner) (placed n q)
  below_winner h = rw (lt-ltb q n h) (rw (lt-ltb q n h))

  pub below_canonical : q < n → value_of (seg m (row q + 60) 3) ≡ value_at (values_of m n canonical) (placed n q)
  below_canonical h = rw (lt-ltb q n h) (rw (lt-ltb q n h))

-- ---- the rule ----

module _ (b : Header) (a : ℕ) where
  pub parent_over : (w : ℕ) (ok : Bool) → ltb (w + a) limit ≡ false → unlinked ≡ on_parent b a (linked w ok)
  parent_over w ok e = rw e

  pub parent_sum : (w x : ℕ) (ok met r : Bool) → meets_target b ≡ met → x ≡ w + a → ltb (w + a) limit ≡ true → r ≡ (ok && met) → linked x r ≡ on_parent b a (linked w ok)
  parent_sum w x ok met r e f g h = rw (g, e, f, h)

  pub actual_root : (i : ℕ) (v : Value) → b.index ≡ i → i ≡ 0 → linked a true ≡ on_actual b v (readable a)
  actual_root i v e z = let k : b.index ≡ 0 = e ∙ z in rw k

  pub actual_above : (i : ℕ) (v : Value) → b.index ≡ i → (i ≡ 0 → ⊥) → on_parent b a v ≡ on_actual b v (readable a)
  actual_above i v e ne = rw (ne_eqb b.index 0 (λ z. ne (sym e ∙ z)))
