-- What the view sees of a change: the frame laws.
use mathlib.Core.Path.{◌≡◌, refl, ap, ◌∙◌, fun_ext}
use mathlib.Core.Bool.{Bool}
use mathlib.Core.List.{List}
use mathlib.Core.Option.{Option}
use Prim.Native.Nat.{ℕ, zero, suc, ◌+◌, ◌*◌, ◌-◌, ◌≤◌, ◌<◌}
use native.Mathlib.Omega.{arith}
use lib.Dec.{eqb, ltb}
use borrow.Author.Tests.{eqb-true, eqb-false, ltb-true, lt-ltb}
use Rattle.amount.specs.Choose.{◌if◌else◌}
use Rattle.model.specs.Places.{put_at}
use Rattle.model.specs.Record.{Header, Copy}
use Rattle.model.specs.Holding.{Cell, free, Held, answer_of}
use Rattle.model.specs.Standing.{Spine, winner, canonical, Values, unlinked}
use Rattle.model.specs.Numbers.{Point}
use Rattle.model.proofs.Tools.{by_bool}
use Rattle.memory.specs.Words.{word, seg}
use Rattle.memory.specs.Layout.{row, ring}
use Rattle.memory.proofs.WordLaws.{seg_same}
use Rattle.rows.specs.Rows.{header_at, copy_at, held_at, cell_of, cell_at, value_of, value_at}
use Rattle.rows.proofs.RowLaws.{header_groups, copy_groups}
use Rattle.journal.specs.Journal.{tab, joined, back, entry_at, slot_of, touched_at, journal_of}
use Rattle.state.specs.View.{cells_of, values_of, synced_of, state, view_at}
use Rattle.state.specs.Moves.{with_cell}

pub state_eq : {n j j' g g' v v' : ℕ} {cells cells' : ℕ → Cell} {l l' : List ℕ} {a a' b b' : Bool} {w w' : Values} {s s' : Option Point}
    → j' ≡ j → cells' ≡ cells → g' ≡ g → v' ≡ v → l' ≡ l → a' ≡ a → w' ≡ w → s' ≡ s → b' ≡ b
    → state n j' cells' g' v' l' a' w' s' b' ≡ state n j cells g v l a w s b
state_eq e₀ e₁ e₂ e₃ e₄ e₅ e₆ e₇ e₈ = rw (e₀, e₁, e₂, e₃, e₄, e₅, e₆, e₇, e₈)

-- ---- a row ----

module _ (m m' : List ℕ) where
  group : (at lo hi : ℕ) → ((a : ℕ) → lo ≤ a → a < hi → word m' a ≡ word m a) → lo ≤ at → at + 4 ≤ hi → seg m' at 4 ≡ seg m at 4
  group at lo hi f x y = seg_same m m' at 4 (λ i h. f (at + i) (omega arith) (omega arith))

  pub header_same : (at : ℕ) → ((a : ℕ) → at ≤ a → a < at + 16 → word m' a ≡ word m a) → header_at m' at ≡ header_at m at
  unfolding header_at
  header_same at f =
      header_groups (group at at (at + 16) f (omega arith) (omega arith)) (group (at + 4) at (at + 16) f (omega arith) (omega arith))
      (group (at + 8) at (at + 16) f (omega arith) (omega arith)) (group (at + 12) at (at + 16) f (omega arith) (omega arith))

  pub copy_same : (at : ℕ) → ((a : ℕ) → at ≤ a → a < at + 12 → word m' a ≡ word m a) → copy_at m' at ≡ copy_at m at
  unfolding copy_at
  copy_same at f =
      copy_groups (group at at (at + 12) f (omega arith) (omega arith)) (group (at + 4) at (at + 12) f (omega arith) (omega arith))
      (group (at + 8) at (at + 12) f (omega arith) (omega arith))

pub held_eq : {h h' : Header} {a a' : ℕ} {c₀ c₀' c₁ c₁' c₂ c₂' : Option Copy} → h' ≡ h → a' ≡ a → c₀' ≡ c₀ → c₁' ≡ c₁ → c₂' ≡ c₂
    → ◌≡◌ {A = Held} (record { header = h'; answer = answer_of a'; in_active = c₀'; in_forks = c₁'; in_canon = c₂' }) (record { header = h; answer = answer_of a; in_active = c₀; in_forks = c₁; in_canon = c₂ })
held_eq e₀ e₁ e₂ e₃ e₄ = rw (e₀, e₁, e₂, e₃, e₄)

-- the words of row q that its cell is read off are the same
abbrev pub CellWords : List ℕ → List ℕ → ℕ → Type 0
CellWords m m' q = (k : ℕ) → k < 56 → (k ≡ 2 → ⊥) → (k ≡ 3 → ⊥) → word m' (row q + k) ≡ word m (row q + k)

abbrev pub ValueWords : List ℕ → List ℕ → ℕ → Type 0
ValueWords m m' q = (k : ℕ) → 56 ≤ k → k < 63 → (k ≡ 59 → ⊥) → word m' (row q + k) ≡ word m (row q + k)

module _ (m m' : List ℕ) (q : ℕ) where
  -- an address of the row by its offset
  at_offset : ((k : ℕ) → k < 56 → (k ≡ 2 → ⊥) → (k ≡ 3 → ⊥) → word m' (row q + k) ≡ word m (row q + k)) → (a : ℕ) → row q + 4 ≤ a → a < row q + 56 → word m' a ≡ word m a
  at_offset f a x y = let e : row q + (a - row q) ≡ a = omega arith in rw e at (f (a - row q) (omega arith) (omega arith) (omega arith))

  pub cell_same : CellWords m m' q → cell_at m' q ≡ cell_at m q
  cell_same f =
      ap (λ (u : ℕ). cell_of u (held_at m' (row q))) used
      ∙ ap (cell_of (word m (row q)))
      (held_eq (header_same m m' (row q + 4) (λ a x y. at_offset f a (omega arith) (omega arith))) (f 1 (omega arith) (omega arith) (omega arith))
      (copy_same m m' (row q + 20) (λ a x y. at_offset f a (omega arith) (omega arith))) (copy_same m m' (row q + 32) (λ a x y. at_offset f a (omega arith) (omega arith)))
      (copy_same m m' (row q + 44) (λ a x y. at_offset f a (omega arith) (omega arith))))
    where
      used : word m' (row q) ≡ word m (row q)
      used = let e : row q + 0 ≡ row q = omega arith in rw e at (f 0 (omega arith) (omega arith) (omega arith))

  pub value_same : ValueWords m m' q → (w : Spine) → value_at m' w q ≡ value_at m w q
  value_same f winner = ap value_of (seg_same m m' (row q + 56) 3 (λ i h. let e : row q + 56 + i ≡ row q + (56 + i) = omega arith in rw e (f (56 + i) (omega arith) (omega arith) (omega arith))))
  value_same f canonical = ap value_of (seg_same m m' (row q + 60) 3 (λ i h. let e : row q + 60 + i ≡ row q + (60 + i) = omega arith in rw e (f (60 + i) (omega arith) (omega arith) (omega arith))))

pub below_same : {A : Type 0} (n p : ℕ) (a b z : A) → (p < n → a ≡ b) → (a if ltb p n else z) ≡ (b if ltb p n else z)
below_same n p a b z f = by_bool (ltb p n) (λ e. rw e (f (ltb-true p n e))) (λ e. rw e)

pub values_same : (m m' : List ℕ) (n : ℕ) → ((q : ℕ) → q < n → ValueWords m m' q) → values_of m' n ≡ values_of m n
values_same m m' n f = fun_ext (λ w. fun_ext (λ q. below_same n q (value_at m' w q) (value_at m w q) unlinked (λ h. value_same m m' q (f q h) w)))

-- ---- the journal ----

pub tab_same : (f g : ℕ → ℕ) (k : ℕ) → ((i : ℕ) → f i ≡ g i) → tab f k ≡ tab g k
unfolding tab
tab_same f g zero h = refl
tab_same f g (suc k) h = rw (h 0, tab_same (λ i. f (suc i)) (λ i. g (suc i)) k (λ i. h (suc i)))

module _ (m m' : List ℕ) (n : ℕ) (e₁ : word m' 1 ≡ word m 1) (e₅ : word m' 5 ≡ word m 5) (f : (a : ℕ) → ring n ≤ a → word m' a ≡ word m a) where
  pub slot_same : (i : ℕ) → slot_of m' i ≡ slot_of m i
  slot_same i = ap (λ (j : ℕ). back j (word m' 5) i) e₁ ∙ ap (λ (at : ℕ). back (word m 1) at i) e₅

  pub touched_same : (i : ℕ) → touched_at m' n i ≡ touched_at m n i
  touched_same i = ap (entry_at m' n) (slot_same i) ∙ ap joined (seg_same m m' (ring n + 5 * slot_of m i) 4 (λ k h. f (ring n + 5 * slot_of m i + k) (omega arith)))

  pub journal_same : word m' 4 ≡ word m 4 → journal_of m' n ≡ journal_of m n
  journal_same e₄ = ap (tab (touched_at m' n)) e₄ ∙ tab_same (touched_at m' n) (touched_at m n) (word m 4) touched_same

-- ---- all ----

-- what the view sees besides the cells is as it was
pub record Seen (m m' : List ℕ) (n : ℕ) : Type 0 where
  pub head : (a : ℕ) → a < 11 → word m' a ≡ word m a
  pub values : (q : ℕ) → q < n → ValueWords m m' q
  pub ring : (a : ℕ) → ring n ≤ a → word m' a ≡ word m a

module _ (m m' : List ℕ) (n : ℕ) (seen : Seen m m' n) where
  pub view_cells : (cells : ℕ → Cell) → cells_of m' n ≡ cells
      → view_at m' n ≡ state n (word m 1) cells (word m 2) (word m 3) (journal_of m n) (eqb (word m 6) 1) (values_of m n) (synced_of (seg m 8 3)) (eqb (word m 7) 1)
  unfolding view_at
  view_cells cells rows =
      state_eq (seen.head 1 (omega arith)) rows (seen.head 2 (omega arith)) (seen.head 3 (omega arith))
      (journal_same m m' n (seen.head 1 (omega arith)) (seen.head 5 (omega arith)) seen.ring (seen.head 4 (omega arith)))
      (ap (λ (z : ℕ). eqb z 1) (seen.head 6 (omega arith))) (values_same m m' n seen.values)
      (ap synced_of (seg_same m m' 8 3 (λ i h. seen.head (8 + i) (omega arith)))) (ap (λ (z : ℕ). eqb z 1) (seen.head 7 (omega arith)))

  -- no cell changed
  pub view_same : ((q : ℕ) → q < n → CellWords m m' q) → view_at m' n ≡ view_at m n
  unfolding view_at
  view_same f = view_cells (cells_of m n) (fun_ext (λ q. below_same n q (cell_at m' q) (cell_at m q) free (λ h. cell_same m m' q (f q h))))

  -- only the cell of p changed
  pub view_row : (p : ℕ) → p < n → ((q : ℕ) → q < n → (q ≡ p → ⊥) → CellWords m m' q) → view_at m' n ≡ with_cell (view_at m n) p (cell_at m' p)
  unfolding view_at
  view_row p p<n f = view_cells (put_at (cells_of m n) p (cell_at m' p)) (fun_ext cell)
    where
      cell : (q : ℕ) → cells_of m' n q ≡ put_at (cells_of m n) p (cell_at m' p) q
      cell q =
          by_bool (eqb q p)
          (λ e. let z : q ≡ p = eqb-true q p e in rw (e, z, lt-ltb p n p<n))
          (λ e. let ne : q ≡ p → ⊥ = eqb-false q p e in rw e (below_same n q (cell_at m' q) (cell_at m q) free (λ h. cell_same m m' q (f q h ne))))
