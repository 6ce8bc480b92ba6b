-- Our walk orphaned in step with the walk of the safe front's top: at each block of ours, the safe one of equal index, if any, is found from where the last one was.
use mathlib.Core.Path.{◌≡◌, sym, ap, ◌∙◌}
use mathlib.Core.Bool.{true}
use mathlib.Core.List.{List}
use mathlib.Core.Option.{some}
use Prim.Native.Nat.{ℕ, ◌+◌, ◌≤◌, ◌<◌}
use native.Mathlib.Omega.{arith}
use Rattle.memory.specs.Layout.{Laid, row}
use Rattle.memory.specs.Words.{word}
use Rattle.model.specs.Holding.{index_of, is_live}
use Rattle.model.specs.Places.{put_at}
use Rattle.model.specs.Standing.{parent}
use Rattle.model.proofs.WalkLaws.{walk_live, parent_index}
use Rattle.pending.proofs.PendLaws.{pend_view}
use Rattle.pending.proofs.TurnLaws.{pend_sound, pend_cell}
use Rattle.state.specs.Sound.{SoundAt, placed}
use Rattle.state.specs.View.{cells_of, view_at}
use Rattle.state.proofs.FindLaws.{placed_in}
use Rattle.writing.specs.Coded.{Coded}
use Rattle.writing.specs.Steps.{Codes}
use Rattle.extending.specs.Accepting.{level_of, level_from, rival_code, orphan_code, Ends}
use Rattle.extending.proofs.AboveLaws.{view_cell, Writing, writing_start, here_index, after_next, writing_none, writing_more, Answers}
use Rattle.extending.proofs.LevelLaws.{level_again, level_on}

-- s is where the safe block of q's index, or of a lower one, may be sought from
pub record Beside (m₀ : List ℕ) (n top q s : ℕ) : Type 0 where
  pub live : s < n → is_live (cells_of m₀ n s) ≡ true
  pub from : (i : ℕ) → i ≤ index_of ((view_at m₀ n).holdings.cells q) → level_of (view_at m₀ n).holdings i top ≡ level_from (view_at m₀ n).holdings i (placed n s)

pub record Stepping (m₀ m : List ℕ) (n local f top q s steps : ℕ) : Type 0 where
  pub ours : Writing m₀ m n local f top q steps (orphan_code (view_at m₀ n).holdings top)
  pub theirs : SoundAt m₀ n → Ends m₀ n local f top → Beside m₀ n top q s

pub step_start : (m : List ℕ) (n local f top : ℕ) → local < n → top < n → Stepping m m n local f top local top 0
step_start m n local f top i j = record {
  ours = writing_start m n local f top (orphan_code (view_at m n).holdings top) i;
  theirs = λ s v. record { live = λ k. v.last_live; from = λ x l. sym (ap (level_from (view_at m n).holdings x) (placed_in n top j)) };
}

module _ (m₀ m : List ℕ) (n local f top q s steps : ℕ) (laid : Laid m₀ n) (f<n : f < n) (w : Stepping m₀ m n local f top q s steps)
    (x : ℕ) (lv : SoundAt m n → (s < n → is_live (cells_of m n s) ≡ true) → level_from (view_at m n).holdings (word m (row q + 12)) (placed n s) ≡ placed n x) where
  module _ (k : SoundAt m₀ n) (v : Ends m₀ n local f top) where
    high : index_of ((view_at m₀ n).holdings.cells q) ≡ word m (row q + 12)
    high = here_index m₀ m n local f top q steps (orphan_code (view_at m₀ n).holdings top) laid f<n w.ours k v

    found : level_from (view_at m₀ n).holdings (index_of ((view_at m₀ n).holdings.cells q)) (placed n s) ≡ placed n x
    found = rw (pend_view m₀ m n w.ours.only, ← high) at (lv (pend_sound m₀ m n laid w.ours.only k) (λ j. ap is_live (pend_cell m₀ m n laid w.ours.only s) ∙ (w.theirs k v).live j))

    at_level : level_of (view_at m₀ n).holdings (index_of ((view_at m₀ n).holdings.cells q)) top ≡ placed n x
    at_level = (w.theirs k v).from (index_of ((view_at m₀ n).holdings.cells q)) (omega arith) ∙ found

    pub level_live : x < n → is_live (cells_of m₀ n x) ≡ true
    level_live j = sym (ap is_live (view_cell m₀ n x)) ∙ walk_live (view_at m₀ n).holdings top x (ap is_live (view_cell m₀ n top) ∙ v.last_live) (level_on (view_at m₀ n).holdings (index_of ((view_at m₀ n).holdings.cells q)) top x (at_level ∙ placed_in n x j))

  -- what is written there
  pub step_code : (b : ℕ) → ((x < n → is_live (cells_of m n x) ≡ true) → b ≡ rival_code (view_at m n).holdings (word m (row q + 12)) (placed n x)) → SoundAt m₀ n → Ends m₀ n local f top → (g : ℕ → ℕ) → Coded m n g → b ≡ orphan_code (view_at m₀ n).holdings top q (g q)
  step_code b e k v g c =
      let y : b ≡ rival_code (view_at m n).holdings (word m (row q + 12)) (placed n x) = e (λ j. ap is_live (pend_cell m₀ m n laid w.ours.only x) ∙ level_live k v j) in
      let z : b ≡ rival_code (view_at m₀ n).holdings (index_of ((view_at m₀ n).holdings.cells q)) (placed n x) = rw (pend_view m₀ m n w.ours.only, ← high k v) at y in
      z ∙ ap (rival_code (view_at m₀ n).holdings (index_of ((view_at m₀ n).holdings.cells q))) (sym (at_level k v))

  -- and the search goes on from it, below
  pub step_beside : (r : ℕ) → (SoundAt m₀ n → parent (view_at m₀ n).holdings q ≡ some r) → SoundAt m₀ n → Ends m₀ n local f top → Beside m₀ n top r x
  step_beside r d k v = record {
    live = level_live k v;
    from = λ i l. (w.theirs k v).from i (omega (arith, parent_index (view_at m₀ n).holdings q r (d k))) ∙ level_again (view_at m₀ n).holdings i (index_of ((view_at m₀ n).holdings.cells q)) (omega (arith, parent_index (view_at m₀ n).holdings q r (d k))) (placed n s) ∙ ap (level_from (view_at m₀ n).holdings i) (found k v);
  }

  module _ (m₂ : List ℕ) (t : word m₀ (row f + 12) < word m (row q + 12)) (b : ℕ) (e : (x < n → is_live (cells_of m n x) ≡ true) → b ≡ rival_code (view_at m n).holdings (word m (row q + 12)) (placed n x))
      (st : Codes m m₂ n (is_live (cells_of m n q) ≡ true) (λ k. put_at k q b)) (r : ℕ) (d : SoundAt m₂ n → parent (view_at m₂ n).holdings q ≡ placed n r) where
    pub step_more : r < n → Stepping m₀ m₂ n local f top r x (steps + 1)
    step_more l = record {
      ours = writing_more m₀ m n local f top q steps (orphan_code (view_at m₀ n).holdings top) laid f<n w.ours m₂ t b st (step_code b e) r d l;
      theirs = step_beside r (λ k. after_next m₀ m n local f top q steps (orphan_code (view_at m₀ n).holdings top) laid f<n w.ours m₂ t b st (step_code b e) r d k ∙ placed_in n r l);
    }

    pub step_none : n ≤ r → Answers m₀ m₂ n local f top (orphan_code (view_at m₀ n).holdings top)
    step_none l = writing_none m₀ m n local f top q steps (orphan_code (view_at m₀ n).holdings top) laid f<n w.ours m₂ t b st (step_code b e) r d l
