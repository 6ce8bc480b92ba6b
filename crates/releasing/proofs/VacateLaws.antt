-- A place that leaves the indexes and becomes free: what stays, and that a sound memory stays sound.
use mathlib.Core.Path.{◌≡◌, refl, sym, ap, ◌∙◌, subst, fun_ext}
use mathlib.Core.Bool.{Bool, true, false, cond}
use mathlib.Core.List.{List}
use mathlib.Core.Option.{Option, none, some}
use Prim.Native.Nat.{ℕ, ◌+◌, ◌*◌, ◌≤◌, ◌<◌}
use native.Mathlib.Omega.{arith}
use lib.Dec.{eqb}
use borrow.Author.Tests.{eqb-true, eq-eqb, ne_eqb}
use Rattle.model.specs.Record.{Header, Copy}
use Rattle.model.specs.Places.{put_at, is_some}
use Rattle.model.specs.Holding.{Cell, free, held, is_free, is_held, is_live, is_canonical, effective, copy_is_live, copy_is_canonical, released}
use Rattle.model.specs.Numbers.{State}
use Rattle.model.proofs.Tools.{by_bool, no_both}
use Rattle.memory.specs.Words.{word, Stored}
use Rattle.memory.specs.Layout.{row, by_hash, by_prev, nodes, vacant_at, Laid}
use Rattle.memory.proofs.WordLaws.{seg_same, stored_same, stored_other, stored_long}
use Rattle.rows.specs.Rows.{cell_of, cell_at}
use Rattle.index.specs.Index.{Keyed}
use Rattle.index.specs.Keys.{key_at}
use Rattle.index.specs.Writes.{Unlinked}
use Rattle.index.proofs.IndexLaws.{keyed_frame, keyed_remove}
use Rattle.contest.specs.Tree.{WF}
use Rattle.contest.specs.Contests as contest
use Rattle.contest.specs.Contests.{Updated}
use Rattle.contest.proofs.Uses.{again, same_free_but}
use Rattle.roster.proofs.RosterLaws.{roster_frame, roster_same}
use Rattle.state.specs.View.{cells_of, view_at}
use Rattle.state.specs.Sound.{Used, hash_at, SoundAt}
use Rattle.state.proofs.ViewLaws.{CellWords, Seen, header_same, view_row}
use Rattle.state.proofs.SoundLaws.{laid_same, journaled_same}
use Rattle.state.proofs.FindLaws.{used_is, free_is, cell_used, used_cell}
use Rattle.state.proofs.RowSteps.{Counted, Listing, row_effective, row_live, row_canonical, row_vacant}
use Rattle.places.specs.Status.{held_by, Says}
use Rattle.releasing.specs.Vacates.{FreeOnly, Vacates, Settles}

-- ---- a cell that no store holds ----

not_live : (o : Option Copy) → is_some o ≡ false → copy_is_live o ≡ false
not_live none e = refl
not_live (some k) e = no_both true refl e

not_canonical : (o : Option Copy) → is_some o ≡ false → copy_is_canonical o ≡ false
not_canonical none e = refl
not_canonical (some k) e = no_both true refl e

pub unheld_live : (c : Cell) → is_held c ≡ false → is_live c ≡ false
unfolding is_held is_live
unheld_live free e = refl
unheld_live (held h) e = not_live (effective h) e

pub unheld_canonical : (c : Cell) → is_held c ≡ false → is_canonical c ≡ false
unfolding is_held is_canonical
unheld_canonical free e = refl
unheld_canonical (held h) e = not_canonical (effective h) e

-- ---- the steps ----

-- what a step that frees place p leaves of the layout
pub free_laid : (m m' : List ℕ) (n p : ℕ) → Laid m n → FreeOnly m m' n p → Laid m' n
free_laid m m' n p l o = laid_same m m' n l (o.words 0 (omega arith) (omega arith) (omega arith)) (o.words 1 (omega arith) (omega arith) (omega arith)) o.long

module _ (m m₁ m₂ m₃ m₄ : List ℕ) (n p : ℕ) (laid : Laid m n) (p<n : p < n)
    (hashed : Unlinked m m₁ n (by_hash n) p) (named : Unlinked m₁ m₂ n (by_prev n) p) (wiped : Stored m₂ m₃ (row p) 0) (given : Updated n 3 p m₃ m₄) where
  unlinked : (a : ℕ) → (by_hash n ≤ a → a < nodes n 0 → ⊥) → word m₂ a ≡ word m a
  unlinked a x = named.only a (λ u v. x (omega arith) (omega arith)) ∙ hashed.only a (λ u v. x (omega arith) (omega arith))

  only : FreeOnly m m₄ n p
  only = record {
    long = given.long ∙ stored_long wiped ∙ named.long ∙ hashed.long;
    words = λ a x y z. given.only a (λ u v. z (omega arith) (omega arith)) ∙ stored_other wiped a x ∙ unlinked a y;
  }

  other : (q a : ℕ) → q < n → (q ≡ p → ⊥) → row q ≤ a → a < row q + 68 → word m₄ a ≡ word m a
  other q a i ne x y = only.words a (omega arith) (omega arith) (omega arith)

  now_free : word m₄ (row p) ≡ 0
  now_free = let l₁ = hashed.long in let l₂ = named.long in given.only (row p) (omega arith) ∙ stored_same wiped (omega arith)

  unused : Used m₄ p → ⊥
  unused u = let e = now_free in omega arith

  cell_free : cell_at m₄ p ≡ free
  unfolding cell_of
  cell_free = rw (ne_eqb (word m₄ (row p)) 1 unused)

  seen : Seen m m₄ n
  seen = record {
    head = λ a i. only.words a (omega arith) (omega arith) (omega arith);
    values = λ q i j x y z. only.words (row q + j) (omega arith) (omega arith) (omega arith);
    ring = λ a i. only.words a (omega arith) (omega arith) (omega arith);
  }

  rest : (q : ℕ) → q < n → (q ≡ p → ⊥) → CellWords m m₄ q
  rest q i ne j x y z = other q (row q + j) i ne (omega arith) (omega arith)

  cells : cells_of m₄ n ≡ put_at (cells_of m n) p free
  unfolding view_at
  cells = ap (λ (s : State). s.holdings.cells) (view_row m m₄ n seen p p<n rest) ∙ ap (put_at (cells_of m n) p) cell_free

  -- who is used now
  used_to : (q : ℕ) → q < n → Used m q → (q ≡ p → ⊥) → Used m₄ q
  used_to q i u ne = other q (row q) i ne (omega arith) (omega arith) ∙ u

  used_ne : (q : ℕ) → Used m₄ q → q ≡ p → ⊥
  used_ne q u e = unused (subst (Used m₄) e u)

  used_of : (q : ℕ) → q < n → Used m₄ q → Used m q × (q ≡ p → ⊥)
  used_of q i u = (sym (other q (row q) i (used_ne q u) (omega arith) (omega arith)) ∙ u, used_ne q u)

  key_else : (a b : List ℕ) (o q : ℕ) → ((i : ℕ) → row q + 4 ≤ i → i < row q + 20 → word b i ≡ word a i) → 68 ≤ o → o ≤ 72 → key_at b o false q ≡ key_at a o false q
  key_else a b o q f x y = seg_same a b (o + 68 * q) 4 (λ i z. f (o + 68 * q + i) (omega arith) (omega arith))

  module _ (s : SoundAt m n) (used : Used m p) (unheld : is_held (cells_of m n p) ≡ false) where
    hashes₁ : Keyed m₁ n (by_hash n) (key_at m₁ 68 false) (Used m₄)
    hashes₁ =
        keyed_remove m m₁ n (by_hash n) (key_at m 68 false) (key_at m₁ 68 false) (Used m) (Used m₄)
        (λ q i u. key_else m m₁ 68 q (λ a x y. hashed.only a (omega arith)) (omega arith) (omega arith)) s.hashes p p<n used hashed used_to used_of

    hashes₄ : Keyed m₄ n (by_hash n) (key_at m₄ 68 false) (Used m₄)
    hashes₄ =
        keyed_frame m₁ m₄ n (by_hash n) (key_at m₁ 68 false) (key_at m₄ 68 false) (Used m₄) (Used m₄)
        (λ q i u. key_else m₁ m₄ 68 q (λ a x y. later a (omega arith) (omega arith) (omega arith)) (omega arith) (omega arith)) hashes₁
        (λ a x y. later a (omega arith) (omega arith) (omega arith)) (λ q i u. u) (λ q i u. u)
      where
        later : (a : ℕ) → (a ≡ row p → ⊥) → (by_prev n ≤ a → a < nodes n 0 → ⊥) → (nodes n 3 ≤ a → a < nodes n 4 → ⊥) → word m₄ a ≡ word m₁ a
        later a x y z = given.only a (λ u v. z (omega arith) (omega arith)) ∙ stored_other wiped a x ∙ named.only a (λ u v. y (omega arith) (omega arith))

    prevs₁ : Keyed m₁ n (by_prev n) (key_at m₁ 72 false) (Used m)
    prevs₁ =
        keyed_frame m m₁ n (by_prev n) (key_at m 72 false) (key_at m₁ 72 false) (Used m) (Used m)
        (λ q i u. key_else m m₁ 72 q (λ a x y. hashed.only a (omega arith)) (omega arith) (omega arith)) s.prevs
        (λ a x y. hashed.only a (omega arith)) (λ q i u. u) (λ q i u. u)

    prevs₂ : Keyed m₂ n (by_prev n) (key_at m₂ 72 false) (Used m₄)
    prevs₂ =
        keyed_remove m₁ m₂ n (by_prev n) (key_at m₁ 72 false) (key_at m₂ 72 false) (Used m) (Used m₄)
        (λ q i u. key_else m₁ m₂ 72 q (λ a x y. named.only a (omega arith)) (omega arith) (omega arith)) prevs₁ p p<n used named used_to used_of

    prevs₄ : Keyed m₄ n (by_prev n) (key_at m₄ 72 false) (Used m₄)
    prevs₄ =
        keyed_frame m₂ m₄ n (by_prev n) (key_at m₂ 72 false) (key_at m₄ 72 false) (Used m₄) (Used m₄)
        (λ q i u. key_else m₂ m₄ 72 q (λ a x y. later a (omega arith) (omega arith)) (omega arith) (omega arith)) prevs₂
        (λ a x y. later a (omega arith) (omega arith)) (λ q i u. u) (λ q i u. u)
      where
        later : (a : ℕ) → (a ≡ row p → ⊥) → (nodes n 3 ≤ a → a < nodes n 4 → ⊥) → word m₄ a ≡ word m₂ a
        later a x z = given.only a (λ u v. z (omega arith) (omega arith)) ∙ stored_other wiped a x

    hash_else : (q : ℕ) → q < n → (q ≡ p → ⊥) → hash_at m₄ q ≡ hash_at m q
    hash_else q i ne = ap (λ (x : Header). x.hash) (header_same m m₄ (row q + 4) (λ a x y. other q a i ne (omega arith) (omega arith)))

    keys₄ : (q r : ℕ) → q < n → r < n → Used m₄ q → Used m₄ r → hash_at m₄ q ≡ hash_at m₄ r → q ≡ r
    keys₄ q r i j u v e =
        let w = used_of q i u in
        let x = used_of r j v in
        s.keys q r i j w.0 x.0 (sym (hash_else q i w.1) ∙ e ∙ hash_else r j x.1)

    free₄ : WF n (contest.view m₄ n 3)
    free₄ =
        again m m₃ n 3 m₄ p
        (same_free_but m m₃ n p (λ j i. stored_other wiped (nodes n 3 + j) (omega arith) ∙ unlinked (nodes n 3 + j) (omega arith))
        (λ q i ne. stored_other wiped (row q) (omega arith) ∙ unlinked (row q) (omega arith)))
        given s.free

    -- p was in no count, and is in none
    uncounted : (test : Cell → Bool) (w w₄ : ℕ) → w₄ ≡ w → test free ≡ false → test (cells_of m n p) ≡ false
        → w₄ + cond (test (cells_of m n p)) 1 0 ≡ w + cond (test (cell_at m₄ p)) 1 0
    uncounted test w w₄ e f g = let h : test (cell_at m₄ p) ≡ false = ap test cell_free ∙ f in rw (g, h, e)

    count_kept : (a : ℕ) → a < 64 → word m₄ a ≡ word m a
    count_kept a i = only.words a (omega arith) (omega arith) (omega arith)

    counted : Counted m m₄ n p
    unfolding is_held is_live is_canonical
    counted = record {
      effective = uncounted is_held (word m 11) (word m₄ 11) (count_kept 11 (omega arith)) refl unheld;
      live = uncounted is_live (word m 12) (word m₄ 12) (count_kept 12 (omega arith)) refl (unheld_live (cells_of m n p) unheld);
      canonical = uncounted is_canonical (word m 13) (word m₄ 13) (count_kept 13 (omega arith)) refl (unheld_canonical (cells_of m n p) unheld);
    }

    members_kept : (i : ℕ) → i < n → word m₄ (vacant_at n + i) ≡ word m (vacant_at n + i)
    members_kept i x = only.words (vacant_at n + i) (omega arith) (omega arith) (omega arith)

    positions_kept : (q : ℕ) → q < n → word m₄ (66 + 68 * q) ≡ word m (66 + 68 * q)
    positions_kept q x = only.words (66 + 68 * q) (omega arith) (omega arith) (omega arith)

    listing : Listing m m₄ n p
    unfolding is_free
    listing = record {
      roster = roster_frame m m₄ n (vacant_at n) 15 66 (count_kept 15 (omega arith)) members_kept positions_kept s.roster;
      stays = λ q i e. roster_same m m₄ n (vacant_at n) 15 66 (count_kept 15 (omega arith)) members_kept positions_kept q i ∙ e;
      joins = λ e f. no_both (is_free (cell_at m₄ p)) (ap is_free cell_free) e;
    }

    sound : SoundAt m₄ n
    sound =
        let l = free_laid m m₄ n p laid only in
        record {
          laid = l;
          hashes = hashes₄;
          prevs = prevs₄;
          keys = keys₄;
          free = free₄;
          roster = listing.roster;
          vacant = row_vacant m m₄ n p s p<n l seen rest counted listing;
          effective = row_effective m m₄ n p s p<n l seen rest counted listing;
          live = row_live m m₄ n p s p<n l seen rest counted listing;
          canonical = row_canonical m m₄ n p s p<n l seen rest counted listing;
          journal = journaled_same m m₄ n (seen.head 1 (omega arith)) (seen.head 4 (omega arith)) (seen.head 5 (omega arith)) seen.ring s.journal;
        }

  pub vacate_done : Vacates m m₄ n p
  vacate_done = record { only = only; cells = cells; sound = λ s e f. sound s (cell_used m n p e).1 f }

-- ---- a place that is looked at ----

pub released_held : (c : Cell) → is_held c ≡ true → released c ≡ c
released_held c e = rw e

pub released-free : (c : Cell) → is_held c ≡ false → released c ≡ free
released-free c e = rw e

pub free-released : (c : Cell) → c ≡ free → released c ≡ c
unfolding is_held
free-released c e = ap released e ∙ sym e

-- the cell that a place has is put there
put_same : (f : ℕ → Cell) (p : ℕ) (c : Cell) → c ≡ f p → f ≡ put_at f p c
put_same f p c e = fun_ext (λ q. by_bool (eqb q p) (λ i. let z : q ≡ p = eqb-true q p i in rw i (ap f z ∙ sym e)) (λ i. rw i))

module _ (m : List ℕ) (n p : ℕ) (p<n : p < n) where
  stays : released (cells_of m n p) ≡ cells_of m n p → Settles m m n p
  stays e = record {
    only = record { long = refl; words = λ a x y z. refl };
    cells = put_same (cells_of m n) p (released (cells_of m n p)) e;
    sound = λ s. s;
  }

  pub settle_free : (Used m p → ⊥) → Settles m m n p
  settle_free u = stays (free-released (cells_of m n p) (free_is m n p p<n u))

  module _ (w : ℕ) (used : Used m p) (says : Says m (row p) w) where
    said : is_held (cells_of m n p) ≡ held_by w
    said = ap is_held (used_is m n p p<n used) ∙ says.effective

    pub settle_held : (w ≡ 0 → ⊥) → Settles m m n p
    settle_held ne = stays (released_held (cells_of m n p) (said ∙ (rw (ne_eqb w 0 ne))))

    pub settle_done : (m' : List ℕ) → w ≡ 0 → Vacates m m' n p → Settles m m' n p
    settle_done m' z v =
        let e : is_held (cells_of m n p) ≡ false = said ∙ (rw (eq-eqb w 0 z)) in
        record {
          only = v.only;
          cells = v.cells ∙ ap (put_at (cells_of m n) p) (sym (released-free (cells_of m n p) e));
          sound = λ s. v.sound s (used_cell m n p p<n used) e;
        }
