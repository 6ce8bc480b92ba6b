-- A turn: the place is pending no more, is worked out, and if a value changed those that follow it are pending.
use mathlib.Core.Path.{◌≡◌, refl, sym, ap, ◌∙◌}
use mathlib.Core.Bool.{Bool, true, false, not, ◌&&◌, ◌||◌}
use mathlib.Core.List.{List}
use Prim.{tt}
use Prim.Native.Nat.{ℕ, ◌+◌, ◌<◌}
use native.Mathlib.Omega.{arith}
use lib.Dec.{eqb}
use Rattle.model.specs.Holding.{Cell, Holdings}
use Rattle.model.specs.Standing.{Values}
use Rattle.model.specs.Relink.{Pending, moves, worked, follows, after}
use Rattle.model.specs.Numbers.{State}
use Rattle.memory.specs.Layout.{nodes, Laid}
use Rattle.state.specs.View.{cells_of, values_of, view_at}
use Rattle.state.specs.Sound.{Used, SoundAt}
use Rattle.state.specs.TreeOnly.{TreeOnly}
use Rattle.state.proofs.TreeSteps.{tree_then, tree_cells, tree_used, tree_sound, tree_laid}
use Rattle.pending.specs.Pending.{Pends, Turns}
use Rattle.pending.proofs.PendLaws.{pend_tree, pend_view, pends_same, pends_kept}
use Rattle.relink.specs.Treed.{Treed}
use Rattle.relink.specs.Turned.{ValueOnly, Worked, WorksOut, Turned}
use Rattle.relink.proofs.TreedLaws.{treed_frame, pend_words}
use Rattle.relink.proofs.WorkLaws.{values_tree}

-- what is pending is read off words that a value does not touch
pub values_pends : (m m' : List ℕ) (n : ℕ) (pend : Pending) → Laid m n → ValueOnly m m' n → Pends m n pend → Pends m' n pend
values_pends m m' n pend laid v =
    pends_kept m m' n pend laid (λ q k h l e. v.rows q k h (omega arith) (λ x y z. omega arith)) (λ q h. v.rows q 59 h (omega arith) (λ x y z. y refl))
    (λ j h. v.contests (nodes n 2 + j) (omega arith) (omega arith))

module _ (m m₁ m₂ : List ℕ) (n p : ℕ) (r : Bool) (laid : Laid m n) (p<n : p < n)
    (d : Turns m m₁ n (Unit {0}) (λ pend q. pend q && not (eqb q p))) (w : WorksOut m₁ m₂ n p r) where
  tree₁ : TreeOnly m m₁ n
  tree₁ = pend_tree m m₁ n laid d.only

  tree₂ : TreeOnly m m₂ n
  tree₂ = tree_then m m₁ m₂ n tree₁ (values_tree m₁ m₂ n w.only)

  laid₁ : Laid m₁ n
  laid₁ = tree_laid m m₁ n tree₁ laid

  pub turn_laid : Laid m₂ n
  turn_laid = tree_laid m m₂ n tree₂ laid

  module _ (s : SoundAt m n) (t : Treed m n) (pend : Pending) (pends : Pends m n pend) (now : pend p ≡ true) where
    used : Used m p
    used = pends.used p p<n now

    view₁ : view_at m₁ n ≡ view_at m n
    view₁ = pend_view m m₁ n d.only

    done : Worked m₁ m₂ n p r
    done = w.right (tree_sound m m₁ n tree₁ s) (treed_frame m m₁ n laid t (pend_words m m₁ n laid t d.only)) (tree_used m m₁ n tree₁ p p<n ∙ used)

    values_view : (z : List ℕ) → (view_at z n).values ≡ values_of z n
    unfolding view_at
    values_view z = refl

    holdings₁ : (view_at m₁ n).holdings ≡ (view_at m n).holdings
    holdings₁ = ap (λ (x : State). x.holdings) view₁

    values₁ : values_of m₁ n ≡ values_of m n
    values₁ = sym (values_view m₁) ∙ ap (λ (x : State). x.values) view₁ ∙ values_view m

    values₂ : values_of m₂ n ≡ worked (view_at m n).holdings (values_of m n) p
    values₂ = done.values ∙ ap (λ (h : Holdings). worked h (values_of m₁ n) p) holdings₁ ∙ ap (λ (v : Values). worked (view_at m n).holdings v p) values₁

    told₂ : r ≡ moves (view_at m n).holdings (values_of m n) p
    told₂ = done.told ∙ ap (λ (h : Holdings). moves h (values_of m₁ n) p) holdings₁ ∙ ap (λ (v : Values). moves (view_at m n).holdings v p) values₁

    pends₂ : Pends m₂ n (λ q. pend q && not (eqb q p))
    pends₂ = values_pends m₁ m₂ n (λ q. pend q && not (eqb q p)) laid₁ w.only (d.right s tt pend pends)

    cells₂ : (q : ℕ) → cells_of m₂ n q ≡ (view_at m n).holdings.cells q
    unfolding view_at
    cells₂ q = ap (λ (f : ℕ → Cell). f q) (tree_cells m m₂ n tree₂)

  -- no value changed
  pub turn_idle : r ≡ false → Turned m m₂ n p
  unfolding after
  turn_idle e = record {
    only = tree₂;
    right = λ s t pend pends now. record {
      treed = (done s t pend pends now).treed;
      values = values₂ s t pend pends now;
      pends = pends_same m₂ n (λ q. pend q && not (eqb q p)) (after (view_at m n).holdings (values_of m n) p pend) (same s t pend pends now) (pends₂ s t pend pends now);
    };
  }
    where
      or_no : (b : Bool) → b ≡ (b || false)
      or_no true = refl
      or_no false = refl

      same : (s : SoundAt m n) (t : Treed m n) (pend : Pending) (pends : Pends m n pend) (now : pend p ≡ true) (q : ℕ) → q < n → (pend q && not (eqb q p)) ≡ after (view_at m n).holdings (values_of m n) p pend q
      same s t pend pends now q h = rw (← told₂ s t pend pends now, e) (or_no (pend q && not (eqb q p)))

  -- a value changed
  module _ (m₃ : List ℕ) (f : Turns m₂ m₃ n (Used m₂ p) (λ pend q. pend q || follows (cells_of m₂ n p) (cells_of m₂ n q))) where
    pub turn_moved : r ≡ true → Turned m m₃ n p
    unfolding after
    turn_moved e = record {
      only = tree_then m m₂ m₃ n tree₂ (pend_tree m₂ m₃ n turn_laid f.only);
      right = λ s t pend pends now. record {
        treed = treed_frame m₂ m₃ n turn_laid (done s t pend pends now).treed (pend_words m₂ m₃ n turn_laid (done s t pend pends now).treed f.only);
        values = sym (values_view s t pend pends now m₃) ∙ ap (λ (x : State). x.values) (pend_view m₂ m₃ n f.only) ∙ values_view s t pend pends now m₂ ∙ values₂ s t pend pends now;
        pends = pends_same m₃ n _ (after (view_at m n).holdings (values_of m n) p pend) (same s t pend pends now)
            (f.right (tree_sound m m₂ n tree₂ s) (tree_used m m₂ n tree₂ p p<n ∙ used s t pend pends now) (λ q. pend q && not (eqb q p)) (pends₂ s t pend pends now));
      };
    }
      where
        same : (s : SoundAt m n) (t : Treed m n) (pend : Pending) (pends : Pends m n pend) (now : pend p ≡ true) (q : ℕ) → q < n → (pend q && not (eqb q p) || follows (cells_of m₂ n p) (cells_of m₂ n q)) ≡ after (view_at m n).holdings (values_of m n) p pend q
        same s t pend pends now q h = rw (← told₂ s t pend pends now, e, cells₂ s t pend pends now p, cells₂ s t pend pends now q)
