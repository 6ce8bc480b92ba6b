-- Where Select stops: what is marked as aside is unmarked, and the demotions alone are left.
use mathlib.Core.Path.{◌≡◌, refl, sym, ap, ◌∙◌}
use mathlib.Core.Bool.{Bool, true, false, not, ◌&&◌}
use mathlib.Core.List.{List}
use mathlib.Core.Option.{Option, some}
use Prim.Native.Nat.{ℕ}
use lib.Dec.{eqb}
use Rattle.amount.specs.Choose.{◌if◌else◌}
use Rattle.model.specs.Lists.{elem}
use Rattle.model.specs.Walks.{Asked, index, is_canon, under}
use Rattle.model.specs.Select.{on, stop}
use Rattle.model.proofs.Tools.{no_both}
use Rattle.state.specs.View.{view_at}
use Rattle.writing.specs.Coded.{Coded}
use Rattle.writing.specs.Decides.{decided_changed, decided_reason}
use Rattle.writing.specs.declared.Decided.{Decided}
use Rattle.writing.proofs.CodeLaws.{coded_same}
use Rattle.turning.specs.Turned.{turned, TurnsAll}
use Rattle.turning.specs.declared.Turn.TheVariants.{Into}
use Rattle.selecting.specs.Selected.{strayed, stopped, demoted_of, counted, IsDemoted, IsStray, Tips, Settles, Stops}
use Rattle.turning.proofs.FrameLaws.{plan_same}
use Rattle.selecting.proofs.MeantLaws.{meant_demoted}
use Rattle.selecting.proofs.TestLaws.{stray_of, demoted_is, no_stray}
use Rattle.selecting.proofs.TipLaws.{tips_room, tips_used}

-- ---- one place ----

stop_all : (T U O : Bool) → (0 if eqb (stray_of T U O) 8 else stray_of T U O) ≡ (2 if not U && O else 0)
stop_all true true true = refl
stop_all true true false = refl
stop_all true false true = refl
stop_all true false false = refl
stop_all false true true = refl
stop_all false true false = refl
stop_all false false true = refl
stop_all false false false = refl

stop_none : (T U O : Bool) → (not T && (U && O)) ≡ false → stray_of T U O ≡ (2 if not U && O else 0)
stop_none true true true e = refl
stop_none true true false e = refl
stop_none true false true e = refl
stop_none true false false e = refl
stop_none false true true e = no_both true refl e
stop_none false true false e = refl
stop_none false false true e = refl
stop_none false false false e = refl

-- ---- all places ----

-- the demotions so far and nothing more
pub stop_settles : (a : Asked) (m : List ℕ) (n local : ℕ) (demoted : Bool) (x : Decided) → decided_changed x ≡ some (counted demoted) → IsDemoted a local demoted → Coded m n (stopped a local) → Settles (stop a local) a m n x
unfolding stopped
stop_settles a m n local demoted x e d k = record {
  changed = e ∙ ap {B = Option ℕ} some (sym d);
  codes = λ q. 2 if elem q (demoted_of a local) else 0;
  coded = k;
  meant = meant_demoted a.holdings a.clock (decided_reason x) (demoted_of a local);
}

module _ (a : Asked) (m : List ℕ) (n : ℕ) (floor : Option ℕ) (per top local : ℕ) (t : Tips a m n floor per top local) (k : Coded m n (strayed a top local)) where
  pub stop_plain : IsStray a top local false → Coded m n (stopped a local)
  unfolding stopped strayed
  stop_plain e =
      coded_same m n (strayed a top local) (stopped a local)
      (λ q h. stop_none (on a top q) (under a.floor (index a q)) (is_canon a q && not (on a local q)) (no_stray a n local (tips_room a m n floor per top local t) t.off_is top q h e)
      ∙ ap (λ (b : Bool). 2 if b else 0) (sym (demoted_is a n local (tips_room a m n floor per top local t) t.off_is q h))) k

  pub stop_turned : (m' : List ℕ) → TurnsAll m m' n (Into 0) top → Coded m' n (stopped a local)
  unfolding stopped strayed turned
  stop_turned m' w =
      coded_same m' n (λ q. turned (Into 0) (view_at m n).holdings top q (strayed a top local q)) (stopped a local)
      (λ q h. stop_all (on a top q) (under a.floor (index a q)) (is_canon a q && not (on a local q))
      ∙ ap (λ (b : Bool). 2 if b else 0) (sym (demoted_is a n local (tips_room a m n floor per top local t) t.off_is q h)))
      (w.right t.sound (tips_used a m n floor per top local t top t.top_live) (strayed a top local) k)

-- ---- the function ----

module _ (m : List ℕ) (n top : ℕ) (stray demoted : Bool) (x : Decided) (e : decided_changed x ≡ some (counted demoted)) where
  pub stops_plain : stray ≡ false → Stops m m n top stray demoted x
  stops_plain z = record {
    only = plan_same m n;
    right = λ floor per local a t k i d. stop_settles a m n local demoted x e d (stop_plain a m n floor per top local t k (i ∙ z));
  }

  pub stops_turned : (m' : List ℕ) → TurnsAll m m' n (Into 0) top → Stops m m' n top stray demoted x
  stops_turned m' w = record {
    only = w.only;
    right = λ floor per local a t k i d. stop_settles a m' n local demoted x e d (stop_turned a m n floor per top local t k m' w);
  }
