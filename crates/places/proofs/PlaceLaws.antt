-- A step that writes copies of one place and lets the counts follow: what it leaves sound, and of the tree alone.
use mathlib.Core.Path.{◌≡◌, ap, ◌∙◌}
use mathlib.Core.Bool.{Bool, true, cond}
use mathlib.Core.List.{List}
use Prim.Native.Nat.{ℕ, ◌+◌, ◌*◌, ◌≤◌, ◌<◌}
use native.Mathlib.Omega.{arith}
use lib.ListN.{length}
use borrow.Author.Tests.{eq-eqb}
use Rattle.model.specs.Places.{count}
use Rattle.model.specs.Holding.{Cell, held, is_held, is_live, is_canonical}
use Rattle.model.proofs.Sums.{count_below}
use Rattle.memory.specs.Words.{word}
use Rattle.memory.specs.Layout.{row, vacant_at, Laid}
use Rattle.rows.specs.Rows.{held_at, cell_of, cell_at}
use Rattle.roster.proofs.RosterLaws.{roster_frame, roster_same}
use Rattle.state.specs.View.{cells_of, view_at}
use Rattle.state.specs.Sound.{Used, SoundAt, Roster, is_listed}
use Rattle.state.specs.Moves.{Apart}
use Rattle.state.proofs.ViewLaws.{CellWords, Seen, held_eq, header_same, copy_same}
use Rattle.state.proofs.SoundLaws.{Kept, laid_same}
use Rattle.state.proofs.FindLaws.{used_is}
use Rattle.state.proofs.RowSteps.{count_at, Counted}
use Rattle.places.specs.Status.{held_by, live_by, canonical_by, Says, Tallied}

-- ---- what a step that writes words 20 to 55 of row p, and the counts, leaves as it was ----

module _ (m m' : List ℕ) (n p : ℕ) (p<n : p < n) (long : length m' ≡ length m)
    (only : (a : ℕ) → (row p + 20 ≤ a → a < row p + 56 → ⊥) → (11 ≤ a → a < 14 → ⊥) → word m' a ≡ word m a) where
  pub copies_laid : Laid m n → Laid m' n
  copies_laid l = laid_same m m' n l (only 0 (omega arith) (omega arith)) (only 1 (omega arith) (omega arith)) long

  pub copies_seen : Seen m m' n
  copies_seen = record {
    head = λ a h. only a (omega arith) (omega arith);
    values = λ q h k x y z. only (row q + k) (omega arith) (omega arith);
    ring = λ a h. only a (omega arith) (omega arith);
  }

  pub copies_rest : (q : ℕ) → q < n → (q ≡ p → ⊥) → CellWords m m' q
  copies_rest q h ne k l x y = only (row q + k) (omega arith) (omega arith)

  pub copies_kept : Kept m m' n
  copies_kept = record {
    used = λ q h. only (row q) (omega arith) (omega arith);
    headers = λ q a h x y. only a (omega arith) (omega arith);
    indexes = λ a x y. only a (omega arith) (omega arith);
    free = λ a x y. only a (omega arith) (omega arith);
  }

  pub copies_apart : Apart m m' n
  copies_apart = record {
    long = long;
    rows = λ q k h x y. only (row q + k) (omega arith) (omega arith);
    headers = λ q k h u x y. only (row q + k) (omega arith) (omega arith);
    used = λ q h u. only (row q) (omega arith) (omega arith) ∙ u;
    contests = λ a x y. only a (omega arith) (omega arith);
    leaves = λ a x y. only a (omega arith) (omega arith);
    leaf_count = only 14 (omega arith) (omega arith);
  }

  -- the roster, where this step leaves it alone
  pub copies_roster : Roster m n → Roster m' n
  copies_roster = roster_frame m m' n (vacant_at n) 15 66 (only 15 (omega arith) (omega arith)) (λ i h. only (vacant_at n + i) (omega arith) (omega arith)) (λ q h. only (66 + 68 * q) (omega arith) (omega arith))

  pub copies_listed : (q : ℕ) → q < n → is_listed m n q ≡ true → is_listed m' n q ≡ true
  copies_listed q h e = roster_same m m' n (vacant_at n) 15 66 (only 15 (omega arith) (omega arith)) (λ i h. only (vacant_at n + i) (omega arith) (omega arith)) (λ q h. only (66 + 68 * q) (omega arith) (omega arith)) q h ∙ e

-- ---- the counts ----

-- the row of a used place is its cell
pub row_cell : (m : List ℕ) (p : ℕ) → Used m p → cell_at m p ≡ held (held_at m (row p))
unfolding cell_of
row_cell m p u = rw (eq-eqb (word m (row p)) 1 u)

module _ (m m₁ m₂ : List ℕ) (n p was is : ℕ) (s : SoundAt m n) (p<n : p < n) (used : Used m p)
    (only₁ : (a : ℕ) → (row p + 20 ≤ a → a < row p + 56 → ⊥) → word m₁ a ≡ word m a)
    (said : Says m (row p) was) (says : Says m₁ (row p) is) (t : Tallied m₁ m₂ was is) where
  used₁ : Used m₁ p
  used₁ = only₁ (row p) (omega arith) ∙ used

  used₂ : Used m₂ p
  used₂ = t.only (row p) (omega arith) ∙ used₁

  -- the counts are in the head, so the row reads the same
  held_same : held_at m₂ (row p) ≡ held_at m₁ (row p)
  held_same =
      held_eq (header_same m₁ m₂ (row p + 4) (λ a x y. t.only a (omega arith))) (t.only (row p + 1) (omega arith))
      (copy_same m₁ m₂ (row p + 20) (λ a x y. t.only a (omega arith))) (copy_same m₁ m₂ (row p + 32) (λ a x y. t.only a (omega arith))) (copy_same m₁ m₂ (row p + 44) (λ a x y. t.only a (omega arith)))

  pub now_cell : cell_at m₂ p ≡ held (held_at m₁ (row p))
  now_cell = row_cell m₂ p used₂ ∙ ap held held_same

  -- a count of the view is small, and counts p if p passes
  follow : (test : Cell → Bool) (w : ℕ) (by : ℕ → Bool) (a b : ℕ) → w ≡ count (λ q. test (cells_of m n q)) n → test (held (held_at m (row p))) ≡ by was
      → test (held (held_at m₁ (row p))) ≡ by is → a ≡ w → ((cond (by was) 1 0 ≤ a) → a < 18446744073709551615 → b + cond (by was) 1 0 ≡ a + cond (by is) 1 0)
      → b + cond (test (cells_of m n p)) 1 0 ≡ w + cond (test (cell_at m₂ p)) 1 0
  follow test w by a b e f g z h =
      let x : test (cells_of m n p) ≡ by was = ap test (used_is m n p p<n used) ∙ f in
      let y : test (cell_at m₂ p) ≡ by is = ap test now_cell ∙ g in
      let l : cond (by was) 1 0 ≤ w = rw (← e) at (rw x at (count_at (λ q. test (cells_of m n q)) n p p<n)) in
      let few : n ≤ 32768 = s.laid.few in
      let u : w ≤ n = rw (← e) at (count_below (λ q. test (cells_of m n q)) n) in
      rw (x, y, ← z) (h (omega arith) (omega arith))

  pub counts_follow : Counted m m₂ n p
  unfolding view_at
  counts_follow = record {
    effective = follow is_held (word m 11) held_by (word m₁ 11) (word m₂ 11) s.effective said.effective says.effective (only₁ 11 (omega arith)) t.effective;
    live = follow is_live (word m 12) live_by (word m₁ 12) (word m₂ 12) s.live said.live says.live (only₁ 12 (omega arith)) t.live;
    canonical = follow is_canonical (word m 13) canonical_by (word m₁ 13) (word m₂ 13) s.canonical said.canonical says.canonical (only₁ 13 (omega arith)) t.canonical;
  }
