-- A step that writes words 2 to 10 of the head and, past the places, the journal: the places, their counts and what a sync keeps stay; and what
-- the view is after one that writes words 3 to 7 alone.
use mathlib.Core.Path.{◌≡◌, sym, ap, ◌∙◌, fun_ext}
use mathlib.Core.Bool.{Bool}
use mathlib.Core.List.{List}
use Prim.Native.Nat.{ℕ, ◌+◌, ◌*◌, ◌≤◌, ◌<◌}
use native.Mathlib.Omega.{arith}
use lib.ListN.{length}
use lib.Dec.{eqb}
use Rattle.model.specs.Places.{count}
use Rattle.model.specs.Holding.{Cell, free, is_free, is_held, is_live, is_canonical}
use Rattle.memory.specs.Words.{word, seg}
use Rattle.memory.specs.Layout.{row, vacant_at, ring, Laid}
use Rattle.memory.proofs.WordLaws.{seg_same}
use Rattle.rows.specs.Rows.{cell_at}
use Rattle.roster.proofs.RosterLaws.{roster_frame, roster_same}
use Rattle.journal.specs.Journal.{journal_of, Journaled}
use Rattle.state.specs.View.{cells_of, values_of, synced_of, state, view_at}
use Rattle.state.specs.Sound.{SoundAt}
use Rattle.state.specs.Moves.{Apart}
use Rattle.state.proofs.ViewLaws.{state_eq, below_same, cell_same, values_same, CellWords}
use Rattle.state.proofs.SoundLaws.{Kept, laid_same, hashes_same, prevs_same, keys_same, free_same}

module _ (m m' : List ℕ) (n : ℕ) (laid : Laid m n) (only : (a : ℕ) → (2 ≤ a → a < 11 → ⊥) → a < ring n → word m' a ≡ word m a) (long : length m' ≡ length m) where
  words : (q : ℕ) → q < n → CellWords m m' q
  words q h k l x y = only (row q + k) (omega arith) (omega arith)

  pub head_cells : cells_of m' n ≡ cells_of m n
  head_cells = fun_ext (λ q. below_same n q (cell_at m' q) (cell_at m q) free (λ h. cell_same m m' q (words q h)))

  kept : Kept m m' n
  kept = record {
    used = λ q h. only (row q) (omega arith) (omega arith);
    headers = λ q a h x y. only a (omega arith) (omega arith);
    indexes = λ a x y. only a (omega arith) (omega arith);
    free = λ a x y. only a (omega arith) (omega arith);
  }

  pub head_laid : Laid m' n
  head_laid = laid_same m m' n laid (only 0 (omega arith) (omega arith)) (only 1 (omega arith) (omega arith)) long

  pub head_apart : Apart m m' n
  head_apart = record {
    long = long;
    rows = λ q k h x y. only (row q + k) (omega arith) (omega arith);
    headers = λ q k h u x y. only (row q + k) (omega arith) (omega arith);
    used = λ q h u. only (row q) (omega arith) (omega arith) ∙ u;
    contests = λ a x y. only a (omega arith) (omega arith);
    leaves = λ a x y. only a (omega arith) (omega arith);
    leaf_count = only 14 (omega arith) (omega arith);
  }

  pub head_sound : SoundAt m n → Journaled m' n → SoundAt m' n
  unfolding view_at
  head_sound s j = record {
    laid = head_laid;
    hashes = hashes_same m m' n kept s.hashes;
    prevs = prevs_same m m' n kept s.prevs;
    keys = keys_same m m' n kept s.keys;
    free = free_same m m' n kept s.laid s.free;
    roster = roster_frame m m' n (vacant_at n) 15 66 (only 15 (omega arith) (omega arith)) (λ i h. only (vacant_at n + i) (omega arith) (omega arith)) (λ q h. only (66 + 68 * q) (omega arith) (omega arith)) s.roster;
    vacant = λ p h e f.
        let c : cells_of m' n p ≡ cells_of m n p = ap (λ (g : ℕ → Cell). g p) head_cells in
        roster_same m m' n (vacant_at n) 15 66 (only 15 (omega arith) (omega arith)) (λ i h. only (vacant_at n + i) (omega arith) (omega arith)) (λ q h. only (66 + 68 * q) (omega arith) (omega arith)) p h
        ∙ s.vacant p h (sym (ap is_free c) ∙ e) (sym (ap is_held c) ∙ f);
    effective = only 11 (omega arith) (omega arith) ∙ s.effective ∙ ap (λ (g : ℕ → Cell). count (λ p. is_held (g p)) n) (sym head_cells);
    live = only 12 (omega arith) (omega arith) ∙ s.live ∙ ap (λ (g : ℕ → Cell). count (λ p. is_live (g p)) n) (sym head_cells);
    canonical = only 13 (omega arith) (omega arith) ∙ s.canonical ∙ ap (λ (g : ℕ → Cell). count (λ p. is_canonical (g p)) n) (sym head_cells);
    journal = j;
  }

module _ (m m' : List ℕ) (n : ℕ) (laid : Laid m n) (only : (a : ℕ) → (3 ≤ a → a < 8 → ⊥) → a < ring n → word m' a ≡ word m a) (long : length m' ≡ length m) where
  pub head_view : {v : ℕ} {l : List ℕ} {b f : Bool} → word m' 3 ≡ v → journal_of m' n ≡ l → eqb (word m' 6) 1 ≡ b → eqb (word m' 7) 1 ≡ f
      → view_at m' n ≡ state n (word m 1) (cells_of m n) (word m 2) v l b (values_of m n) (synced_of (seg m 8 3)) f
  unfolding view_at
  head_view version journal loading fresh =
      state_eq (only 1 (omega arith) (omega arith)) (head_cells m m' n laid (λ a f h. only a (λ x y. f (omega arith) (omega arith)) h) long) (only 2 (omega arith) (omega arith)) version journal loading
      (values_same m m' n (λ q h k x y z. only (row q + k) (omega arith) (omega arith)))
      (ap synced_of (seg_same m m' 8 3 (λ i h. only (8 + i) (omega arith) (omega arith)))) fresh
