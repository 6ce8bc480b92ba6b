-- What a plan's core may change, step after step; and a pass by a walk that is noted first.
use mathlib.Core.Path.{◌≡◌, refl, ◌∙◌}
use mathlib.Core.List.{List}
use Prim.Native.Nat.{ℕ, ◌+◌}
use native.Mathlib.Omega.{arith}
use Rattle.memory.specs.Layout.{row, Laid}
use Rattle.state.specs.Sound.{SoundAt, Used}
use Rattle.state.specs.TreeOnly.{TreeOnly}
use Rattle.state.specs.View.{view_at}
use Rattle.state.proofs.ViewLaws.{view_same}
use Rattle.state.proofs.TreeSteps.{tree_laid, tree_sound, tree_holdings}
use Rattle.pending.specs.Pending.{PendOnly}
use Rattle.walks.specs.Walked.{LineOnly, Lined}
use Rattle.walks.proofs.LineLaws.{line_tree}
use Rattle.writing.specs.Coded.{Coded}
use Rattle.writing.specs.Steps.{Codes}
use Rattle.writing.specs.Planned.{PlanOnly}
use Rattle.writing.proofs.UserLaws.{coded_kept}
use Rattle.turning.specs.Turned.{turned, TurnsAll}
use Rattle.turning.specs.declared.Turn.{Turn}

pub plan_same : (m : List ℕ) (n : ℕ) → PlanOnly m m n
plan_same m n = record { long = refl; head = λ a x. refl; rows = λ q k h x y z w. refl; before = λ a x y. refl; after = λ a x. refl }

pub plan_then : (m m₁ m₂ : List ℕ) (n : ℕ) → PlanOnly m m₁ n → PlanOnly m₁ m₂ n → PlanOnly m m₂ n
plan_then m m₁ m₂ n a b = record {
  long = b.long ∙ a.long;
  head = λ i x. b.head i x ∙ a.head i x;
  rows = λ q k h x y z w. b.rows q k h x y z w ∙ a.rows q k h x y z w;
  before = λ i x y. b.before i x y ∙ a.before i x y;
  after = λ i x. b.after i x ∙ a.after i x;
}

pub pend_plan : (m m' : List ℕ) (n : ℕ) → PendOnly m m' n → PlanOnly m m' n
pend_plan m m' n o = record { long = o.long; head = o.head; rows = λ q k h x y z w. o.rows q k h x y z; before = o.before; after = o.after }

pub line_plan : (m m' : List ℕ) (n : ℕ) → LineOnly m m' n → PlanOnly m m' n
line_plan m m' n o = record {
  long = o.long;
  head = λ a x. o.only a (λ q i e. omega arith);
  rows = λ q k h x y z w. o.only (row q + k) (λ r i e. w (omega arith));
  before = λ a x y. o.only a (λ q i e. omega arith);
  after = λ a x. o.only a (λ q i e. omega arith);
}

pub plan_tree : (m m' : List ℕ) (n : ℕ) → PlanOnly m m' n → TreeOnly m m' n
plan_tree m m' n o = record {
  long = o.long;
  head = λ a x y. o.head a x;
  rows = λ q k h x y. o.rows q k h (omega arith) y (omega arith) (omega arith);
  indexes = λ a x y. o.before a x (omega arith);
  free = λ a x y. o.after a x;
  rest = λ a x. o.after a (omega arith);
}

pub plan_laid : (m m' : List ℕ) (n : ℕ) → PlanOnly m m' n → Laid m n → Laid m' n
plan_laid m m' n o = tree_laid m m' n (plan_tree m m' n o)

pub plan_view : (m m' : List ℕ) (n : ℕ) → PlanOnly m m' n → view_at m' n ≡ view_at m n
plan_view m m' n o =
    view_same m m' n
    (record {
      head = λ a x. o.head a (omega arith);
      values = λ q h k x y z. o.rows q k h (omega arith) (omega arith) z (omega arith);
      ring = λ a x. o.after a (omega arith);
    })
    (λ q h k l x y. o.rows q k h (omega arith) y (omega arith) (omega arith))

pub line_coded : (m m' : List ℕ) (n : ℕ) (f : ℕ → ℕ) → Laid m n → LineOnly m m' n → Coded m n f → Coded m' n f
line_coded m m' n f laid o =
    coded_kept m m' n f laid
    (λ q k h x y. o.only (row q + k) (λ r i e. omega arith))
    (λ q h. o.only (row q + 59) (λ r i e. omega arith))
    (λ j h. o.only _ (λ r i e. omega arith))

pub turns_all : (m m₁ m₂ : List ℕ) (n : ℕ) (t : Turn) (top k : ℕ) → Laid m n → LineOnly m m₁ n → (SoundAt m n → Used m top → Lined m₁ n top k)
    → Codes m₁ m₂ n (Lined m₁ n top k) (λ f q. turned t (view_at m₁ n).holdings top q (f q)) → TurnsAll m m₂ n t top
turns_all m m₁ m₂ n t top k laid o l c = record {
  only = plan_then m m₁ m₂ n (line_plan m m₁ n o) (pend_plan m₁ m₂ n c.only);
  right = λ s u f a.
      let v : (view_at m₁ n).holdings ≡ (view_at m n).holdings = tree_holdings m m₁ n (line_tree m m₁ n o) in
      rw v at (c.right (tree_sound m m₁ n (line_tree m m₁ n o) s) (l s u) f (line_coded m m₁ n f laid o a));
}
