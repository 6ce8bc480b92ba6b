-- A step that changes the cell of one place: when it leaves the memory sound, and what the counts must then be.
use mathlib.Core.Path.{◌≡◌, refl, sym, ap, ◌∙◌, subst}
use mathlib.Core.Bool.{Bool, true, false, cond}
use mathlib.Core.List.{List}
use Prim.Native.Nat.{ℕ, zero, suc, ◌+◌, ◌≤◌, ◌<◌}
use native.Mathlib.Omega.{arith}
use lib.Dec.{eqb, ltb}
use borrow.Author.Tests.{eqb-true, eqb-false, eq-eqb, lt-ltb}
use Rattle.model.specs.Places.{count, put_at, sum}
use Rattle.model.specs.Holding.{Cell, is_free, is_held, is_live, is_canonical, effective_count, live_count}
use Rattle.model.specs.Standing.{canonical_count}
use Rattle.model.specs.Numbers.{State}
use Rattle.model.proofs.Tools.{by_bool}
use Rattle.model.proofs.Sums.{count_put}
use Rattle.memory.specs.Words.{word}
use Rattle.memory.specs.Layout.{Laid}
use Rattle.rows.specs.Rows.{cell_at}
use Rattle.state.specs.View.{cells_of, view_at}
use Rattle.state.specs.Sound.{SoundAt, Roster, is_listed}
use Rattle.state.specs.Moves.{Stands, with_cell}
use Rattle.state.proofs.ViewLaws.{CellWords, Seen, view_row}
use Rattle.state.proofs.SoundLaws.{Kept, hashes_same, prevs_same, keys_same, free_same, journaled_same}

-- ---- counts ----

-- a place that passes is counted
pub count_at : (f : ℕ → Bool) (n p : ℕ) → p < n → cond (f p) 1 0 ≤ count f n
unfolding sum
count_at f zero p h = absurd (omega arith)
count_at f (suc n) p h = by_bool (eqb p n) (λ e. let z : f p ≡ f n = ap f (eqb-true p n e) in rw z (omega arith)) (λ e. let ne : p ≡ n → ⊥ = eqb-false p n e in omega (arith, count_at f n p (omega arith)))

-- a count over the cells, where one cell is put
pub cells_count : (test : Cell → Bool) (cells : ℕ → Cell) (n p : ℕ) (c : Cell) → p < n
    → count (λ q. test (put_at cells p c q)) n + cond (test (cells p)) 1 0 ≡ count (λ q. test (cells q)) n + cond (test c) 1 0
cells_count test cells n p c h =
    let e : test (put_at cells p c p) ≡ test c = let z : eqb p p ≡ true = eq-eqb p p refl in rw z in
    count_put (λ q. test (cells q)) (λ q. test (put_at cells p c q)) n p h (λ q i. rw i) ∙ ap (λ (t : Bool). count (λ q. test (cells q)) n + cond t 1 0) e

-- the counts in the head follow the change at p
pub record Counted (m m' : List ℕ) (n p : ℕ) : Type 0 where
  pub effective : word m' 11 + cond (is_held (cells_of m n p)) 1 0 ≡ word m 11 + cond (is_held (cell_at m' p)) 1 0
  pub live : word m' 12 + cond (is_live (cells_of m n p)) 1 0 ≡ word m 12 + cond (is_live (cell_at m' p)) 1 0
  pub canonical : word m' 13 + cond (is_canonical (cells_of m n p)) 1 0 ≡ word m 13 + cond (is_canonical (cell_at m' p)) 1 0

-- the same number is added on both sides
cancel : (x y a b c d : ℕ) → x + a ≡ y + b → c + a ≡ d + b → y ≡ d → x ≡ c
cancel x y a b c d e f z = omega arith

-- what the roster of vacant places must be after a change at p
pub record Listing (m m' : List ℕ) (n p : ℕ) : Type 0 where
  pub roster : Roster m' n
  pub stays : (q : ℕ) → q < n → is_listed m n q ≡ true → is_listed m' n q ≡ true
  pub joins : is_free (cell_at m' p) ≡ false → is_held (cell_at m' p) ≡ false → is_listed m' n p ≡ true

module _ (m m' : List ℕ) (n p : ℕ) (s : SoundAt m n) (p<n : p < n) (laid : Laid m' n) (seen : Seen m m' n) (rest : (q : ℕ) → q < n → (q ≡ p → ⊥) → CellWords m m' q) where
  pub row_view : view_at m' n ≡ with_cell (view_at m n) p (cell_at m' p)
  row_view = view_row m m' n seen p p<n rest

  -- the counts of what the memory now stands for
  counted : (test : Cell → Bool) (w w' : ℕ) → w ≡ count (λ q. test (cells_of m n q)) n → w' + cond (test (cells_of m n p)) 1 0 ≡ w + cond (test (cell_at m' p)) 1 0
      → w' ≡ count (λ q. test (put_at (cells_of m n) p (cell_at m' p) q)) n
  counted test w w' e f = cancel w' w (cond (test (cells_of m n p)) 1 0) (cond (test (cell_at m' p)) 1 0) _ _ f (cells_count test (cells_of m n) n p (cell_at m' p) p<n) e

  -- what the structures make of it is left to the caller
  module _ (counts : Counted m m' n p) (listing : Listing m m' n p) where
    pub row_effective : word m' 11 ≡ effective_count (view_at m' n).holdings
    unfolding view_at
    row_effective = counted is_held (word m 11) (word m' 11) s.effective counts.effective ∙ sym (ap (λ (t : State). effective_count t.holdings) row_view)

    pub row_live : word m' 12 ≡ live_count (view_at m' n).holdings
    unfolding view_at
    row_live = counted is_live (word m 12) (word m' 12) s.live counts.live ∙ sym (ap (λ (t : State). live_count t.holdings) row_view)

    pub row_canonical : word m' 13 ≡ canonical_count (view_at m' n).holdings
    unfolding view_at
    row_canonical = counted is_canonical (word m 13) (word m' 13) s.canonical counts.canonical ∙ sym (ap (λ (t : State). canonical_count t.holdings) row_view)

    pub row_vacant : (q : ℕ) → q < n → is_free (cells_of m' n q) ≡ false → is_held (cells_of m' n q) ≡ false → is_listed m' n q ≡ true
    unfolding view_at
    row_vacant q h e f = by_bool (eqb q p) (λ i. here (eqb-true q p i)) (λ i. there (eqb-false q p i))
      where
        here : q ≡ p → is_listed m' n q ≡ true
        here z =
            let c : cells_of m' n q ≡ cell_at m' p = let l : ltb p n ≡ true = lt-ltb p n p<n in rw (z, l) in
            subst (λ (x : ℕ). is_listed m' n x ≡ true) (sym z) (listing.joins (sym (ap is_free c) ∙ e) (sym (ap is_held c) ∙ f))

        there : (q ≡ p → ⊥) → is_listed m' n q ≡ true
        there ne =
            let c : cells_of m' n q ≡ cells_of m n q = let r = rest q h ne in ap (λ (t : State). t.holdings.cells q) row_view ∙ other (eqb q p) refl ne in
            listing.stays q h (s.vacant q h (sym (ap is_free c) ∙ e) (sym (ap is_held c) ∙ f))
          where
            other : (t : Bool) → eqb q p ≡ t → (q ≡ p → ⊥) → put_at (cells_of m n) p (cell_at m' p) q ≡ cells_of m n q
            other true i ne = absurd (ne (eqb-true q p i))
            other false i ne = rw i

    -- no index and no contest reads what changed
    pub row_stands : Kept m m' n → Stands m' n (with_cell (view_at m n) p (cell_at m' p))
    row_stands k =
        record {
          sound = record {
            laid = laid;
            hashes = hashes_same m m' n k s.hashes;
            prevs = prevs_same m m' n k s.prevs;
            keys = keys_same m m' n k s.keys;
            free = free_same m m' n k s.laid s.free;
            roster = listing.roster;
            vacant = row_vacant;
            effective = row_effective;
            live = row_live;
            canonical = row_canonical;
            journal = journaled_same m m' n (seen.head 1 (omega arith)) (seen.head 4 (omega arith)) (seen.head 5 (omega arith)) seen.ring s.journal;
          };
          state = row_view;
        }
