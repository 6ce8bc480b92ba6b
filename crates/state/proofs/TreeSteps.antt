-- Steps that write the tree's words alone: the layout, the cells and soundness stay, and of the view only the values may differ.
use mathlib.Core.Path.{◌≡◌, refl, sym, ap, ◌∙◌, fun_ext}
use mathlib.Core.List.{List}
use Prim.Native.Nat.{ℕ, ◌+◌, ◌*◌, ◌-◌, ◌≤◌, ◌<◌}
use native.Mathlib.Omega.{arith}
use lib.Dec.{eqb}
use Rattle.model.specs.Places.{count}
use Rattle.model.specs.Holding.{Cell, free, is_free, is_held, is_live, is_canonical}
use Rattle.model.specs.Numbers.{State}
use Rattle.memory.specs.Words.{word, seg}
use Rattle.memory.specs.Layout.{row, vacant_at, Laid}
use Rattle.memory.proofs.WordLaws.{seg_same}
use Rattle.roster.proofs.RosterLaws.{roster_same, roster_frame}
use Rattle.rows.specs.Rows.{cell_at}
use Rattle.journal.specs.Journal.{journal_of}
use Rattle.state.specs.View.{cells_of, values_of, synced_of, state, view_at}
use Rattle.state.specs.Sound.{SoundAt}
use Rattle.state.specs.TreeOnly.{TreeOnly}
use Rattle.state.proofs.ViewLaws.{state_eq, cell_same, below_same, journal_same}
use Rattle.state.proofs.SoundLaws.{laid_same, Kept, hashes_same, prevs_same, keys_same, free_same, journaled_same}

pub tree_same : (m : List ℕ) (n : ℕ) → TreeOnly m m n
tree_same m n = record { long = refl; head = λ a x y. refl; rows = λ q k h x y. refl; indexes = λ a x y. refl; free = λ a x y. refl; rest = λ a x. refl }

pub tree_then : (m m₁ m₂ : List ℕ) (n : ℕ) → TreeOnly m m₁ n → TreeOnly m₁ m₂ n → TreeOnly m m₂ n
tree_then m m₁ m₂ n a b = record {
  long = b.long ∙ a.long;
  head = λ i x y. b.head i x y ∙ a.head i x y;
  rows = λ q k h x y. b.rows q k h x y ∙ a.rows q k h x y;
  indexes = λ i x y. b.indexes i x y ∙ a.indexes i x y;
  free = λ i x y. b.free i x y ∙ a.free i x y;
  rest = λ i x. b.rest i x ∙ a.rest i x;
}

module _ (m m' : List ℕ) (n : ℕ) (t : TreeOnly m m' n) where
  word_in : (q a : ℕ) → q < n → row q ≤ a → a < row q + 56 → (a ≡ row q + 3 → ⊥) → word m' a ≡ word m a
  word_in q a h x y z = let f : (k : ℕ) → a ≡ row q + k → word m' a ≡ word m a = λ k e. rw e (t.rows q k h (omega arith) (λ i. z (omega arith))) in f (a - row q) (omega arith)

  pub tree_used : (q : ℕ) → q < n → word m' (row q) ≡ word m (row q)
  tree_used q h = word_in q (row q) h (omega arith) (omega arith) (λ i. omega arith)

  pub tree_cell : (q : ℕ) → q < n → cell_at m' q ≡ cell_at m q
  tree_cell q h = cell_same m m' q (λ k l x y. t.rows q k h l y)

  pub tree_cells : cells_of m' n ≡ cells_of m n
  tree_cells = fun_ext (λ q. below_same n q (cell_at m' q) (cell_at m q) free (tree_cell q))

  kept : Kept m m' n
  kept = record {
    used = tree_used;
    headers = λ q a h x y. word_in q a h (omega arith) (omega arith) (λ i. omega arith);
    indexes = t.indexes;
    free = t.free;
  }

  pub tree_laid : Laid m n → Laid m' n
  tree_laid l = laid_same m m' n l (t.head 0 (omega arith) (λ i. omega arith)) (t.head 1 (omega arith) (λ i. omega arith)) t.long

  pub tree_journal : journal_of m' n ≡ journal_of m n
  tree_journal =
      journal_same m m' n (t.head 1 (omega arith) (λ i. omega arith)) (t.head 5 (omega arith) (λ i. omega arith)) (λ a x. t.rest a (omega arith))
      (t.head 4 (omega arith) (λ i. omega arith))

  -- of the view, only the values may differ
  pub tree_view : view_at m' n ≡ state n (word m 1) (cells_of m n) (word m 2) (word m 3) (journal_of m n) (eqb (word m 6) 1) (values_of m' n) (synced_of (seg m 8 3)) (eqb (word m 7) 1)
  unfolding view_at
  tree_view =
      state_eq (t.head 1 (omega arith) (λ i. omega arith)) tree_cells (t.head 2 (omega arith) (λ i. omega arith)) (t.head 3 (omega arith) (λ i. omega arith))
      tree_journal (ap (λ (z : ℕ). eqb z 1) (t.head 6 (omega arith) (λ i. omega arith))) refl
      (ap synced_of (seg_same m m' 8 3 (λ i h. t.head (8 + i) (omega arith) (λ j. omega arith)))) (ap (λ (z : ℕ). eqb z 1) (t.head 7 (omega arith) (λ i. omega arith)))

  pub tree_holdings : (view_at m' n).holdings ≡ (view_at m n).holdings
  unfolding view_at
  tree_holdings = ap (λ (s : State). s.holdings) tree_view

  pub tree_sound : SoundAt m n → SoundAt m' n
  unfolding view_at
  tree_sound s = record {
    laid = tree_laid s.laid;
    hashes = hashes_same m m' n kept s.hashes;
    prevs = prevs_same m m' n kept s.prevs;
    keys = keys_same m m' n kept s.keys;
    free = free_same m m' n kept s.laid s.free;
    roster = roster_frame m m' n (vacant_at n) 15 66 (t.head 15 (omega arith) (λ i. omega arith)) (λ i h. t.rest (vacant_at n + i) (omega arith)) position s.roster;
    vacant = λ p h e f.
        let c : cells_of m' n p ≡ cells_of m n p = ap (λ (g : ℕ → Cell). g p) tree_cells in
        roster_same m m' n (vacant_at n) 15 66 (t.head 15 (omega arith) (λ i. omega arith)) (λ i h. t.rest (vacant_at n + i) (omega arith)) position p h
        ∙ s.vacant p h (sym (ap is_free c) ∙ e) (sym (ap is_held c) ∙ f);
    effective = t.head 11 (omega arith) (λ i. omega arith) ∙ s.effective ∙ ap (λ (g : ℕ → Cell). count (λ p. is_held (g p)) n) (sym tree_cells);
    live = t.head 12 (omega arith) (λ i. omega arith) ∙ s.live ∙ ap (λ (g : ℕ → Cell). count (λ p. is_live (g p)) n) (sym tree_cells);
    canonical = t.head 13 (omega arith) (λ i. omega arith) ∙ s.canonical ∙ ap (λ (g : ℕ → Cell). count (λ p. is_canonical (g p)) n) (sym tree_cells);
    journal =
        journaled_same m m' n (t.head 1 (omega arith) (λ i. omega arith)) (t.head 4 (omega arith) (λ i. omega arith)) (t.head 5 (omega arith) (λ i. omega arith))
        (λ a x. t.rest a (omega arith)) s.journal;
  }
    where
      position : (q : ℕ) → q < n → word m' (66 + 68 * q) ≡ word m (66 + 68 * q)
      position q h = word_in q (66 + 68 * q) h (omega arith) (omega arith) (λ i. omega arith)
