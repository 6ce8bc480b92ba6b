-- For users of this crate: between calls nothing is written, and what may change under the codes.
use mathlib.Core.Path.{◌≡◌, refl, sym, ap, ◌∙◌}
use mathlib.Core.Bool.{false}
use mathlib.Core.List.{List}
use Prim.Native.Nat.{ℕ, ◌+◌, ◌<◌}
use native.Mathlib.Omega.{arith}
use Rattle.model.specs.Holding.{is_live, index_of}
use Rattle.memory.specs.Words.{word}
use Rattle.memory.specs.Layout.{row, nodes, Laid}
use Rattle.contest.proofs.KeyLaws.{not_entered}
use Rattle.state.specs.View.{cells_of}
use Rattle.state.proofs.ViewLaws.{cell_same, below_same}
use Rattle.pending.specs.Pending.{Pends}
use Rattle.pending.proofs.PendLaws.{pends_kept}
use Rattle.writing.specs.Coded.{Coded}
use Rattle.writing.proofs.FirstLaws.{written, coded_pends}

-- ---- between calls ----

pub idle_coded : (m : List ℕ) (n : ℕ) → Pends m n (λ q. false) → Coded m n (λ q. 0)
idle_coded m n p = record {
  tree = p.tree;
  codes = λ q h. not_entered m 2 q (p.members q h);
  turns = λ q h x. absurd (x refl);
  live = λ q h x. absurd (x refl);
}

pub coded_idle : (m : List ℕ) (n : ℕ) → Coded m n (λ q. 0) → Pends m n (λ q. false)
coded_idle m n a = coded_pends m n (λ q. 0) a

-- ---- other changes ----

-- the cells, the turns, the marks and the nodes are as they were
pub coded_kept : (m m' : List ℕ) (n : ℕ) (f : ℕ → ℕ) → Laid m n
    → ((q k : ℕ) → q < n → k < 56 → (k ≡ 2 → ⊥) → word m' (row q + k) ≡ word m (row q + k))
    → ((q : ℕ) → q < n → word m' (row q + 59) ≡ word m (row q + 59))
    → ((j : ℕ) → j < n → word m' (nodes n 2 + j) ≡ word m (nodes n 2 + j))
    → Coded m n f → Coded m' n f
coded_kept m m' n f laid rows marks node a = record {
  tree = (pends_kept m m' n (written f) laid rows marks node (coded_pends m n f a)).tree;
  codes = λ q h. marks q h ∙ a.codes q h;
  turns = λ q h x. rows q 3 h (omega arith) (omega arith) ∙ a.turns q h x ∙ ap index_of (sym (cell q h));
  live = λ q h x. ap is_live (cell q h) ∙ a.live q h x;
}
  where
    cell : (q : ℕ) → q < n → cells_of m' n q ≡ cells_of m n q
    cell q h = below_same n q _ _ _ (λ _. cell_same m m' q (λ k l x y. rows q k h l x))
