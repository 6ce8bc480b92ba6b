-- The pieces of a decision: what the floor says, what a refusal writes, what stands after a promotion, and an acceptance as two steps.
use mathlib.Core.Path.{◌≡◌, sym, ap, ◌∙◌}
use mathlib.Core.Bool.{Bool, true, false, ◌&&◌}
use mathlib.Core.List.{List}
use Prim.Native.Nat.{ℕ, ◌+◌, ◌<◌}
use mathlib.Core.Option.{Option}
use native.Mathlib.Omega.{arith}
use lib.Dec.{eqb}
use Rattle.amount.specs.Choose.{◌if◌else◌}
use Rattle.memory.specs.Layout.{Laid, row}
use Rattle.memory.specs.Words.{word}
use Rattle.model.specs.Adopt.{is_stale}
use Rattle.model.specs.Holding.{index_of, is_live}
use Rattle.model.specs.Walks.{below}
use Rattle.pending.proofs.NextLaws.{live_used}
use Rattle.pending.proofs.PendLaws.{pend_same, pend_then, pend_view}
use Rattle.pending.proofs.TurnLaws.{pend_sound, pend_cell}
use Rattle.state.specs.Sound.{Used}
use Rattle.state.specs.View.{cells_of, view_at}
use Rattle.walks.proofs.DownLaws.{index_word}
use Rattle.writing.specs.Coded.{Coded}
use Rattle.writing.specs.Steps.{Codes}
use Rattle.writing.proofs.CodeLaws.{coded_same}
use Rattle.extending.specs.Orphans.{staled}
use Rattle.extending.specs.Accepting.{Ends, written_above, orphan_code, promote_code, accepted_to, refused_to}
use Rattle.extending.proofs.AboveLaws.{view_cell}

pub cell_index : (m : List ℕ) (n p : ℕ) → p < n → Used m p → word m (row p + 12) ≡ index_of (cells_of m n p)
cell_index m n p i u = sym (index_word m n p i u) ∙ ap index_of (view_cell m n p)

-- ---- the floor ----

module _ (m : List ℕ) (n local f : ℕ) (local<n : local < n) (f<n : f < n) where
  pub floor_proven : (floor : Option ℕ) (r s t : Bool) → r ≡ t → r ≡ true → s ≡ below floor (word m (row f + 12)) (word m (row local + 12)) → Used m local → Used m f → s ≡ (t && below floor (index_of (cells_of m n f)) (index_of (cells_of m n local)))
  floor_proven floor r s t e z k u v = rw (← e, z, ← cell_index m n local local<n u, ← cell_index m n f f<n v) k

-- ---- refused ----

module _ (m : List ℕ) (n local leaf bottom per : ℕ) (local<n : local < n) (bottom<n : bottom < n) (x : Bool) (e : x ≡ is_stale per (word m (row bottom + 12)) (word m (row local + 12))) where
  is_stale_lem : Ends m n leaf bottom local → x ≡ is_stale per (index_of (cells_of m n bottom)) (index_of (cells_of m n local))
  is_stale_lem v = rw (← cell_index m n local local<n (live_used m n local v.last_live), ← cell_index m n bottom bottom<n v.used) e

  abbrev Refused : List ℕ → Type 0
  Refused m' = Codes m m' n (Ends m n leaf bottom local) (refused_to (view_at m n).holdings leaf (is_stale per (index_of (cells_of m n bottom)) (index_of (cells_of m n local))))

  pub refuse_stale : x ≡ true → (m' : List ℕ) → Codes m m' n (is_live (cells_of m n leaf) ≡ true) (staled (view_at m n).holdings leaf) → Refused m'
  refuse_stale t m' c = record { only = c.only; right = λ s v g k. coded_same m' n (staled (view_at m n).holdings leaf g) (refused_to (view_at m n).holdings leaf (is_stale per (index_of (cells_of m n bottom)) (index_of (cells_of m n local))) g) (λ q i. let z : is_stale per (index_of (cells_of m n bottom)) (index_of (cells_of m n local)) ≡ true = sym (is_stale_lem v) ∙ t in rw z) (c.right s v.first_live g k) }

  pub refuse_kept : x ≡ false → Refused m
  refuse_kept t = record { only = pend_same m n; right = λ s v g k. coded_same m n g (refused_to (view_at m n).holdings leaf (is_stale per (index_of (cells_of m n bottom)) (index_of (cells_of m n local))) g) (λ q i. let z : is_stale per (index_of (cells_of m n bottom)) (index_of (cells_of m n local)) ≡ false = sym (is_stale_lem v) ∙ t in rw z) k }

-- ---- promoted ----

pub promote_first : (was : ℕ) → was ≡ 4 → ◌≡◌ {A = ℕ} 5 (5 if eqb was 4 else 1)
promote_first was e = rw e

pub promote_is : (m : List ℕ) (n q was b : ℕ) → q < n → was ≡ word m (row q + 59) → b ≡ (5 if eqb was 4 else 1) → (k : ℕ → ℕ) → Coded m n k → b ≡ promote_code q (k q)
promote_is m n q was b i e z k c = z ∙ rw (e, c.codes q i)

-- ---- accepted ----

module _ (m m₁ m₂ : List ℕ) (n local f top : ℕ) (laid : Laid m n) (f<n : f < n)
    (one : Codes m m₁ n (Ends m n local f top) (written_above (view_at m n).holdings f local (orphan_code (view_at m n).holdings top)))
    (two : Codes m₁ m₂ n (Ends m₁ n top f top) (written_above (view_at m₁ n).holdings f top promote_code)) where
  between : Ends m n local f top → Ends m₁ n top f top
  between v = record {
    first_live = ap is_live (pend_cell m m₁ n laid one.only top) ∙ v.last_live;
    used = ◌∙◌ {b = word m (row f)} (ap (word m₁) (omega arith) ∙ one.only.rows f 0 f<n (omega arith) (omega arith) (omega arith) ∙ ap (word m) (omega arith)) v.used;
    last_live = ap is_live (pend_cell m m₁ n laid one.only top) ∙ v.last_live;
  }

  pub accept_both : Codes m m₂ n (Ends m n local f top) (accepted_to (view_at m n).holdings local f top)
  accept_both = record {
    only = pend_then m m₁ m₂ n one.only two.only;
    right = λ s v g k. rw (pend_view m m₁ n one.only) at (two.right (pend_sound m m₁ n laid one.only s) (between v) (written_above (view_at m n).holdings f local (orphan_code (view_at m n).holdings top) g) (one.right s v g k));
  }
