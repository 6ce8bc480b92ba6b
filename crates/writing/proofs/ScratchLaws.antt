-- What the core of a plan may change, step after step, leaves the state that the memory stands for.
use mathlib.Core.Path.{◌≡◌, refl, sym, subst, ◌∙◌}
use mathlib.Core.List.{List}
use Prim.Native.Nat.{ℕ}
use native.Mathlib.Omega.{arith}
use Rattle.model.specs.Runs.{Run}
use Rattle.model.specs.Numbers.{State}
use Rattle.memory.specs.Layout.{Laid}
use Rattle.state.specs.TreeOnly.{TreeOnly}
use Rattle.state.specs.View.{view_at}
use Rattle.state.proofs.ViewLaws.{view_same}
use Rattle.state.proofs.TreeSteps.{tree_laid, tree_sound}
use Rattle.pending.specs.Pending.{PendOnly}
use Rattle.writing.specs.Planned.{PlanOnly}
use Rattle.writing.specs.Decides.{Ready, ScratchOnly}

pub scratch_same : (m : List ℕ) (n : ℕ) → ScratchOnly m m n
scratch_same m n = record { long = refl; head = λ a x. refl; rows = λ q k h x y z u v. refl; before = λ a x y. refl; free = λ a x y. refl; after = λ a x. refl }

pub scratch_then : (m m₁ m₂ : List ℕ) (n : ℕ) → ScratchOnly m m₁ n → ScratchOnly m₁ m₂ n → ScratchOnly m m₂ n
scratch_then m m₁ m₂ n a b = record {
  long = b.long ∙ a.long;
  head = λ i x. b.head i x ∙ a.head i x;
  rows = λ q k h x y z u v. b.rows q k h x y z u v ∙ a.rows q k h x y z u v;
  before = λ i x y. b.before i x y ∙ a.before i x y;
  free = λ i x y. b.free i x y ∙ a.free i x y;
  after = λ i x. b.after i x ∙ a.after i x;
}

pub plan_scratch : (m m' : List ℕ) (n : ℕ) → PlanOnly m m' n → ScratchOnly m m' n
plan_scratch m m' n o = record {
  long = o.long;
  head = o.head;
  rows = λ q k h x y z u v. o.rows q k h x y z v;
  before = o.before;
  free = λ a x y. o.after a x;
  after = λ a x. o.after a (omega arith);
}

pub pend_scratch : (m m' : List ℕ) (n : ℕ) → PendOnly m m' n → ScratchOnly m m' n
pend_scratch m m' n o = record {
  long = o.long;
  head = o.head;
  rows = λ q k h x y z u v. o.rows q k h x y z;
  before = o.before;
  free = λ a x y. o.after a x;
  after = λ a x. o.after a (omega arith);
}

module _ (m m' : List ℕ) (n : ℕ) (o : ScratchOnly m m' n) where
  pub scratch_tree : TreeOnly m m' n
  scratch_tree = record {
    long = o.long;
    head = λ a x y. o.head a x;
    rows = λ q k h x y. o.rows q k h (omega arith) y (omega arith) (omega arith) (omega arith);
    indexes = λ a x y. o.before a x (omega arith);
    free = o.free;
    rest = λ a x. o.after a (omega arith);
  }

  pub scratch_laid : Laid m n → Laid m' n
  scratch_laid = tree_laid m m' n scratch_tree

  pub scratch_view : view_at m' n ≡ view_at m n
  scratch_view =
      view_same m m' n
      (record {
        head = λ a x. o.head a (omega arith);
        values = λ q h k x y z. o.rows q k h (omega arith) (omega arith) z (omega arith) (omega arith);
        ring = λ a x. o.after a (omega arith);
      })
      (λ q h k l x y. o.rows q k h (omega arith) y (omega arith) (omega arith) (omega arith))

  pub scratch_ready : Ready m n → Ready m' n
  scratch_ready r = record {
    sound = tree_sound m m' n scratch_tree r.sound;
    run = subst (λ (s : State). Run s) (sym scratch_view) r.run;
    fresh = o.head 7 (omega arith) ∙ r.fresh;
  }
