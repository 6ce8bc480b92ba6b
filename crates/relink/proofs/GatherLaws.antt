-- What is pending when a sync begins.
use mathlib.Core.Path.{◌≡◌, refl, sym, ap, ◌∙◌}
use mathlib.Core.Bool.{false, ◌||◌}
use mathlib.Core.List.{List, []}
use mathlib.Core.Option.{none, some}
use Prim.{tt}
use Prim.Native.Nat.{ℕ}
use borrow.Author.Tests.{ne_eqb}
use Rattle.model.specs.Holding.{Cell, is_live, changes_since}
use Rattle.model.specs.Standing.{Values, unlinked}
use Rattle.model.specs.Relink.{changed_in, settled, relinked}
use Rattle.model.specs.Numbers.{State, changes}
use Rattle.memory.specs.Words.{word}
use Rattle.memory.specs.Layout.{Laid}
use Rattle.journal.specs.declared.Had.TheVariants.{None, Count}
use Rattle.journal.specs.Changes.{changes_of, had_of}
use Rattle.journal.proofs.ChangesLaws.{counted_list, nothing_had}
use Rattle.state.specs.View.{cells_of, values_of, synced_of, view_at}
use Rattle.state.specs.Sound.{SoundAt}
use Rattle.state.proofs.TreeSteps.{tree_then, tree_cells, tree_sound}
use Rattle.pending.specs.Pending.{Turns}
use Rattle.pending.proofs.PendLaws.{pend_tree, pend_view, pends_same}
use Rattle.relink.specs.Gathers.{Resets, Rebuilds, Gathers}
use Rattle.relink.proofs.TreedLaws.{treed_frame, pend_words}
use Rattle.relink.proofs.WorkLaws.{values_tree, values_laid}
use Rattle.relink.proofs.TurnLaws.{values_pends}

values_view : (m : List ℕ) (n : ℕ) → (view_at m n).values ≡ values_of m n
unfolding view_at
values_view m n = refl

pub pend_values : (m m' : List ℕ) (n : ℕ) → view_at m' n ≡ view_at m n → values_of m' n ≡ values_of m n
pend_values m m' n e = sym (values_view m' n) ∙ ap (λ (s : State). s.values) e ∙ values_view m n

pub rebuild_done : (m m₁ m₂ : List ℕ) (n : ℕ) → Laid m n → Resets m m₁ n → Turns m₁ m₂ n (Unit {0}) (λ pend q. pend q || is_live (cells_of m₁ n q)) → Rebuilds m m₂ n
rebuild_done m m₁ m₂ n laid r a = record {
  only = tree_then m m₁ m₂ n (values_tree m m₁ n r.only) (pend_tree m₁ m₂ n laid₁ a.only);
  values = pend_values m₁ m₂ n (pend_view m₁ m₂ n a.only) ∙ r.values;
  treed = λ t. treed_frame m₁ m₂ n laid₁ (r.treed t) (pend_words m₁ m₂ n laid₁ (r.treed t) a.only);
  pends = λ s p.
      pends_same m₂ n (λ q. false || is_live (cells_of m₁ n q)) (λ q. is_live (cells_of m n q)) (λ q h. ap (λ (f : ℕ → Cell). is_live (f q)) (tree_cells m m₁ n (values_tree m m₁ n r.only)))
      (a.right (tree_sound m m₁ n (values_tree m m₁ n r.only) s) tt (λ q. false) (values_pends m m₁ n (λ q. false) laid r.only p));
}
  where
    laid₁ : Laid m₁ n
    laid₁ = values_laid m m₁ n r.only laid

-- ---- none to be had ----

relinked-none : (m : List ℕ) (n : ℕ) → settled (view_at m n).holdings (λ w p. unlinked) (λ q. is_live (cells_of m n q)) ≡ relinked (view_at m n).holdings (values_of m n) none
unfolding relinked view_at
relinked-none m n = refl

relinked-some : (m : List ℕ) (n : ℕ) (l : List ℕ) → settled (view_at m n).holdings (values_of m n) (λ q. changed_in l (cells_of m n q)) ≡ relinked (view_at m n).holdings (values_of m n) (some l)
unfolding relinked view_at
relinked-some m n l = refl

module _ (m m' : List ℕ) (n : ℕ) where
  never : word m 8 ≡ 0 → changes (view_at m n) ≡ none
  unfolding view_at synced_of
  never e = rw e

  since : (word m 8 ≡ 0 → ⊥) → changes (view_at m n) ≡ changes_of m n (word m 9) (word m 10)
  unfolding view_at synced_of changes_since
  since e = rw (ne_eqb (word m 8) 0 e)

  rebuilt : changes (view_at m n) ≡ none → Rebuilds m m' n → Gathers m m' n
  rebuilt e r = record {
    only = r.only;
    right = λ s t p. record { treed = r.treed t; pend = λ q. is_live (cells_of m n q); pends = r.pends s p; same = same };
  }
    where
      same : settled (view_at m n).holdings (values_of m' n) (λ q. is_live (cells_of m n q)) ≡ relinked (view_at m n).holdings (values_of m n) (changes (view_at m n))
      same = ap (λ (v : Values). settled (view_at m n).holdings v (λ q. is_live (cells_of m n q))) r.values ∙ relinked-none m n ∙ ap (relinked (view_at m n).holdings (values_of m n)) (sym e)

  pub gathers_first : word m 8 ≡ 0 → Rebuilds m m' n → Gathers m m' n
  gathers_first e = rebuilt (never e)

  pub gathers_none : (word m 8 ≡ 0 → ⊥) → (SoundAt m n → None ≡ had_of (changes_of m n (word m 9) (word m 10))) → Rebuilds m m' n → Gathers m m' n
  gathers_none e f r = record {
    only = r.only;
    right = λ s t p. (rebuilt (since e ∙ nothing_had _ (f s)) r).right s t p;
  }

  -- ---- the changes ----

  pub gathers_changes : (k : ℕ) → Laid m n → (word m 8 ≡ 0 → ⊥) → (SoundAt m n → Count k ≡ had_of (changes_of m n (word m 9) (word m 10)))
      → ((g : ℕ) (l : List ℕ) → Turns m m' n (changes_of m n g (word m 10) ≡ some l) (λ pend q. pend q || changed_in l (cells_of m n q))) → Gathers m m' n
  gathers_changes k laid e f a = record {
    only = pend_tree m m' n laid (a 0 []).only;
    right = λ s t p.
        let h = counted_list _ k (f s) in
        record {
          treed = treed_frame m m' n laid t (pend_words m m' n laid t (a 0 []).only);
          pend = λ q. changed_in h.list (cells_of m n q);
          pends = (a (word m 9) h.list).right s h.is (λ q. false) p;
          same = ap (λ (v : Values). settled (view_at m n).holdings v (λ q. changed_in h.list (cells_of m n q))) (pend_values m m' n (pend_view m m' n (a 0 []).only)) ∙ relinked-some m n h.list ∙ ap (relinked (view_at m n).holdings (values_of m n)) (sym (since e ∙ h.is));
        };
  }
