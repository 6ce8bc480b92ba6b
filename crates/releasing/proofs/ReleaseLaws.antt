-- The walk over the listed places: what holds after i of them, and that in the end no place has room for a hash that no store holds.
use mathlib.Core.Path.{◌≡◌, refl, sym, ap, ◌∙◌, subst, fun_ext}
use mathlib.Core.Bool.{true, false}
use mathlib.Core.List.{List}
use Prim.Native.Nat.{ℕ, ◌+◌, ◌≤◌, ◌<◌}
use native.Mathlib.Decide.{ℕ_discrete}
use native.Mathlib.Omega.{arith}
use lib.ListN.{length}
use lib.Dec.{eqb}
use borrow.Author.Tests.{eqb-true, eq-eqb}
use Rattle.model.specs.Places.{put_at, count}
use Rattle.model.specs.Holding.{Cell, free, held, is_free, is_held, is_live, is_canonical, released}
use Rattle.model.proofs.Tools.{by_bool, no_both}
use Rattle.memory.specs.Words.{word, Stored}
use Rattle.memory.specs.Layout.{row, by_hash, nodes, vacant_at, Laid}
use Rattle.memory.proofs.WordLaws.{stored_other, stored_long}
use Rattle.rows.specs.Rows.{cell_at}
use Rattle.roster.specs.Roster.{size_at, member_at, position_at, Size, Member}
use Rattle.roster.proofs.DenseLaws.{in_stands}
use Rattle.roster.proofs.RosterLaws.{clear_well}
use Rattle.state.specs.View.{cells_of, view_at}
use Rattle.state.specs.Sound.{SoundAt, is_listed}
use Rattle.state.proofs.ViewLaws.{below_same, cell_same}
use Rattle.state.proofs.SoundLaws.{Kept, laid_same, hashes_same, prevs_same, keys_same, free_same, journaled_same}
use Rattle.state.proofs.FindLaws.{cell_used}
use Rattle.releasing.specs.Vacates.{Settles}
use Rattle.releasing.specs.Releases.{ReleaseOnly, Releases}
use Rattle.releasing.proofs.VacateLaws.{free_laid, released_held, released-free, free-released}

-- ---- cells ----

free_is : (c : Cell) → is_free c ≡ true → c ≡ free
unfolding is_free
free_is free e = refl
free_is (held h) e = no_both false e refl

released_twice : (c : Cell) → released (released c) ≡ released c
released_twice c =
    by_bool (is_held c) (λ e. ap released (released_held c e)) (λ e. free-released (released c) (released-free c e))

put_here : (f : ℕ → Cell) (p : ℕ) (c : Cell) → put_at f p c p ≡ c
put_here f p c = rw (eq-eqb p p refl)

-- place p is looked at: what the model releases is the same, and what it would leave stays
module _ (f : ℕ → Cell) (p : ℕ) where
  looked_same : (q : ℕ) → released (put_at f p (released (f p)) q) ≡ released (f q)
  looked_same q =
      by_bool (eqb q p) (λ i. let z : q ≡ p = eqb-true q p i in rw (i, z) (released_twice (f p))) (λ i. rw i)

  looked_at : released (put_at f p (released (f p)) p) ≡ put_at f p (released (f p)) p
  looked_at = looked_same p ∙ sym (put_here f p (released (f p)))

  looked_else : (q : ℕ) → released (f q) ≡ f q → released (put_at f p (released (f p)) q) ≡ put_at f p (released (f p)) q
  looked_else q e =
      by_bool (eqb q p) (λ i. let z : q ≡ p = eqb-true q p i in rw z looked_at) (λ i. rw i e)

-- ---- the walk ----

abbrev member : List ℕ → ℕ → ℕ → ℕ
member m n j = member_at m n (vacant_at n) j

member_kept : (m m' : List ℕ) (n j : ℕ) → word m' (vacant_at n + j) ≡ word m (vacant_at n + j) → member m' n j ≡ member m n j
unfolding member_at
member_kept m m' n j e = rw e

size_kept : (m m' : List ℕ) (n : ℕ) → word m' 15 ≡ word m 15 → size_at m' n 15 ≡ size_at m n 15
unfolding size_at
size_kept m m' n e = rw e

-- the first i of the listed places have been looked at
pub record Walked (m₀ m : List ℕ) (n i : ℕ) : Type 0 where
  pub laid : Laid m n
  pub long : length m ≡ length m₀
  pub only : (a : ℕ) → ((q : ℕ) → q < n → a ≡ row q → ⊥) → (by_hash n ≤ a → a < nodes n 0 → ⊥) → (nodes n 3 ≤ a → a < nodes n 4 → ⊥) → word m a ≡ word m₀ a
  pub sound : SoundAt m₀ n → SoundAt m n
  pub same : (q : ℕ) → released (cells_of m n q) ≡ released (cells_of m₀ n q)
  pub passed : (j : ℕ) → j < i → released (cells_of m n (member m n j)) ≡ cells_of m n (member m n j)

module _ (m₀ m m' : List ℕ) (n i p : ℕ) (w : Walked m₀ m n i) (at : Member m n (vacant_at n) i p) (s : Settles m m' n p) where
  same_member : (j : ℕ) → member m' n j ≡ member m n j
  same_member j = let b = at.below in member_kept m m' n j (s.only.words (vacant_at n + j) (omega arith) (omega arith) (omega arith))

  now_cell : (q : ℕ) → cells_of m' n q ≡ put_at (cells_of m n) p (released (cells_of m n p)) q
  now_cell q = ap (λ (f : ℕ → Cell). f q) s.cells

  still : (q : ℕ) → released (cells_of m n q) ≡ cells_of m n q → released (cells_of m' n q) ≡ cells_of m' n q
  still q e = ap released (now_cell q) ∙ looked_else (cells_of m n) p q e ∙ sym (now_cell q)

  here : released (cells_of m' n p) ≡ cells_of m' n p
  here = ap released (now_cell p) ∙ looked_at (cells_of m n) p ∙ sym (now_cell p)

  pub walk_more : Walked m₀ m' n (i + 1)
  walk_more = record {
    laid = free_laid m m' n p w.laid s.only;
    long = s.only.long ∙ w.long;
    only = λ a x y z. s.only.words a (x p at.below) y z ∙ w.only a x y z;
    sound = λ x. s.sound (w.sound x);
    same = λ q. ap released (now_cell q) ∙ looked_same (cells_of m n) p q ∙ w.same q;
    passed = λ j h. subst (λ (q : ℕ). released (cells_of m' n q) ≡ cells_of m' n q) (sym (same_member j)) (by j h (ℕ_discrete j i));
  }
    where
      by : (j : ℕ) → j < i + 1 → Dec (j ≡ i) → released (cells_of m' n (member m n j)) ≡ cells_of m' n (member m n j)
      by j h (yes e) = subst (λ (q : ℕ). released (cells_of m' n q) ≡ cells_of m' n q) (at.is ∙ ap (member m n) (sym e)) here
      by j h (no e) = still (member m n j) (w.passed j (omega arith))

-- ---- the end ----

module _ (m₀ m m' : List ℕ) (n z i : ℕ) (laid : Laid m₀ n) (size : Size m₀ n 15 z) (w : Walked m₀ m n i) (end : z ≤ i) (cleared : Stored m m' 15 0) where
  size_is : size_at m n 15 ≡ z
  size_is = size_kept m₀ m n (w.only 15 (λ q h e. omega arith) (omega arith) (omega arith)) ∙ sym size.is

  -- every place with room was listed, or is held
  all : SoundAt m n → (q : ℕ) → released (cells_of m n q) ≡ cells_of m n q
  all s q = by_bool (is_held (cells_of m n q)) (released_held (cells_of m n q)) (λ f. by_bool (is_free (cells_of m n q)) (λ e. free-released (cells_of m n q) (free_is (cells_of m n q) e)) (λ e. listed e f))
    where
      listed : is_free (cells_of m n q) ≡ false → is_held (cells_of m n q) ≡ false → released (cells_of m n q) ≡ cells_of m n q
      listed e f =
          let k = in_stands (size_at m n 15) (member_at m n (vacant_at n)) (position_at m 66) q (s.vacant q (cell_used m n q e).0 e f) in
          let l : position_at m 66 q < i = omega (arith, k.0, size_is) in
          subst (λ (r : ℕ). released (cells_of m n r) ≡ cells_of m n r) k.1 (w.passed (position_at m 66 q) l)

  else_kept : (a : ℕ) → (a ≡ 15 → ⊥) → word m' a ≡ word m a
  else_kept a x = stored_other cleared a x

  same_cells : cells_of m' n ≡ cells_of m n
  same_cells = fun_ext (λ q. below_same n q (cell_at m' q) (cell_at m q) free (λ h. cell_same m m' q (λ k l x y. else_kept (row q + k) (omega arith))))

  kept : Kept m m' n
  kept = record {
    used = λ q h. else_kept (row q) (omega arith);
    headers = λ q a h x y. else_kept a (omega arith);
    indexes = λ a x y. else_kept a (omega arith);
    free = λ a x y. else_kept a (omega arith);
  }

  clear_laid : Laid m' n
  clear_laid = laid_same m m' n w.laid (else_kept 0 (omega arith)) (else_kept 1 (omega arith)) (stored_long cleared)

  nobody : SoundAt m n → (q : ℕ) → is_free (cells_of m' n q) ≡ false → is_held (cells_of m' n q) ≡ false → is_listed m' n q ≡ true
  unfolding is_free
  nobody s q e f =
      let c : cells_of m' n q ≡ cells_of m n q = ap (λ (g : ℕ → Cell). g q) same_cells in
      let x : cells_of m n q ≡ free = sym (all s q) ∙ released-free (cells_of m n q) (sym (ap is_held c) ∙ f) in
      no_both (is_free (cells_of m' n q)) (ap is_free (c ∙ x)) e

  clear_sound : SoundAt m n → SoundAt m' n
  unfolding view_at
  clear_sound s =
      let fits = w.laid.fits in
      record {
        laid = clear_laid;
        hashes = hashes_same m m' n kept s.hashes;
        prevs = prevs_same m m' n kept s.prevs;
        keys = keys_same m m' n kept s.keys;
        free = free_same m m' n kept s.laid s.free;
        roster = clear_well n (vacant_at n) 66 cleared (omega arith);
        vacant = λ q h e f. nobody s q e f;
        effective = else_kept 11 (omega arith) ∙ s.effective ∙ ap (λ (g : ℕ → Cell). count (λ p. is_held (g p)) n) (sym same_cells);
        live = else_kept 12 (omega arith) ∙ s.live ∙ ap (λ (g : ℕ → Cell). count (λ p. is_live (g p)) n) (sym same_cells);
        canonical = else_kept 13 (omega arith) ∙ s.canonical ∙ ap (λ (g : ℕ → Cell). count (λ p. is_canonical (g p)) n) (sym same_cells);
        journal = journaled_same m m' n (else_kept 1 (omega arith)) (else_kept 4 (omega arith)) (else_kept 5 (omega arith)) (λ a x. else_kept a (omega arith)) s.journal;
      }

  only : ReleaseOnly m₀ m' n
  only = record {
    long = stored_long cleared ∙ w.long;
    head = λ a x y. else_kept a y ∙ w.only a (λ q h e. omega arith) (omega arith) (omega arith);
    rows = λ q k h x y ne. else_kept (row q + k) (omega arith) ∙ w.only (row q + k) (λ r j e. omega arith) (omega arith) (omega arith);
    contests = λ a x y. else_kept a (omega arith) ∙ w.only a (λ q h e. omega arith) (omega arith) (omega arith);
    leaves = λ a x y. else_kept a (omega arith) ∙ w.only a (λ q h e. omega arith) (omega arith) (omega arith);
    journal = λ a x. else_kept a (omega arith) ∙ w.only a (λ q h e. omega arith) (omega arith) (omega arith);
  }

  pub walk_done : Releases m₀ m' n
  walk_done = record {
    only = only;
    sound = λ s. clear_sound (w.sound s);
    cells = λ s. fun_ext (λ q. ap (λ (g : ℕ → Cell). g q) same_cells ∙ sym (all (w.sound s) q) ∙ w.same q);
  }
