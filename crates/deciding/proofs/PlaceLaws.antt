-- What is asked of one place: whether its block covers, its value; and the canonical count beside the local walk.
use mathlib.Core.Path.{◌≡◌, sym, ap, ◌∙◌}
use mathlib.Core.Bool.{Bool, true, not}
use mathlib.Core.List.{List}
use Prim.Native.Nat.{ℕ, suc, ◌+◌, ◌-◌, ◌<◌}
use native.Mathlib.Omega.{arith}
use lib.Dec.{eqb}
use borrow.Author.Tests.{lt-ltb, eqb-true, eqb-false, eq-eqb, ne_eqb}
use Rattle.memory.specs.Words.{word}
use Rattle.memory.specs.Layout.{row}
use Rattle.block.specs.Words.{header_of}
use Rattle.rows.specs.Rows.{header_at, value_of}
use Rattle.rows.specs.Rows as rows
use Rattle.choice.specs.Parts.{Covering}
use Rattle.model.specs.Holding.{index_of}
use Rattle.model.specs.Standing.{Spine, canonical_count}
use Rattle.model.specs.Walks.{cell_covers}
use Rattle.model.proofs.Tools.{by_bool}
use Rattle.state.specs.Sound.{SoundAt, Used}
use Rattle.state.specs.View.{cells_of, values_of, view_at}
use Rattle.state.proofs.FindLaws.{used_is}
use Rattle.walks.proofs.DownLaws.{index_word}

module _ (m : List ℕ) (n p : ℕ) (p<n : p < n) where
  pub covers_is : (per : ℕ) (r : Bool) → Covering (word m (row p + 12)) (word m (row p + 13)) per r → Used m p → r ≡ cell_covers per (cells_of m n p)
  unfolding cell_covers header_at header_of
  covers_is per r k u = k (header_at m (row p + 4)) (ap (word m) (omega arith)) (ap (word m) (omega arith)) ∙ ap (cell_covers per) (sym (used_is m n p p<n u))

  pub value_in : (w : Spine) → rows.value_at m w p ≡ values_of m n w p
  value_in w = rw (lt-ltb p n p<n)

-- ---- the canonical count ----

module _ (m : List ℕ) (n local : ℕ) (local<n : local < n) (s : SoundAt m n) (u : Used m local) where
  pub wide_none : word m 13 ≡ 0 → true ≡ not (eqb (canonical_count (view_at m n).holdings) (suc (index_of ((view_at m n).holdings.cells local))))
  wide_none z = rw (ne_eqb (canonical_count (view_at m n).holdings) (suc (index_of ((view_at m n).holdings.cells local))) (λ e. omega (arith, s.canonical)))

  pub wide_some : (word m 13 ≡ 0 → ⊥) → not (eqb (word m 13 - 1) (word m (row local + 12))) ≡ not (eqb (canonical_count (view_at m n).holdings) (suc (index_of ((view_at m n).holdings.cells local))))
  wide_some x =
      by_bool (eqb (word m 13 - 1) (word m (row local + 12)))
      (λ e. let z = eqb-true (word m 13 - 1) (word m (row local + 12)) e in rw (e, eq-eqb (canonical_count (view_at m n).holdings) (suc (index_of ((view_at m n).holdings.cells local))) (omega (arith, s.canonical, index_word m n local local<n u))))
      (λ e. let y = eqb-false (word m 13 - 1) (word m (row local + 12)) e in rw (e, ne_eqb (canonical_count (view_at m n).holdings) (suc (index_of ((view_at m n).holdings.cells local))) (λ z. y (omega (arith, s.canonical, index_word m n local local<n u)))))
