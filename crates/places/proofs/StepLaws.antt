-- The steps at a place: replacing a copy, taking one out, marking an answer.
use mathlib.Core.Path.{◌≡◌, refl, sym, ap, ◌∙◌, subst}
use mathlib.Core.Bool.{Bool, true, false, cond}
use mathlib.Core.List.{List}
use mathlib.Core.Option.{Option, none, some}
use Prim.Native.Nat.{ℕ, zero, suc, ◌+◌, ◌*◌, ◌≤◌, ◌<◌}
use native.Mathlib.Omega.{arith}
use lib.ListN.{length}
use lib.Dec.{eqb}
use borrow.Author.Tests.{eqb-true, eqb-false}
use Rattle.model.specs.Record as model
use Rattle.model.specs.Places.{is_some, or_else}
use Rattle.model.specs.Holding.{Store, active, forks, canon, store_of, Cell, held, Held, set_copy, set_answer, effective, is_free, is_held, is_live, is_canonical, kept, dropped, answered, answer_of}
use Rattle.model.proofs.Tools.{by_bool, no_both}
use Rattle.block.specs.Records.{copy_means}
use Rattle.block.specs.declared.Copy.{Copy}
use Rattle.memory.specs.Words.{word, Stored}
use Rattle.memory.specs.Layout.{row, vacant_at, Laid}
use Rattle.memory.proofs.WordLaws.{stored_same, stored_other, stored_long}
use Rattle.rows.specs.Rows.{header_at, copy_at, held_at, cell_at}
use Rattle.rows.specs.Written.{Copied, Dropped}
use Rattle.roster.specs.Writes.{Added}
use Rattle.roster.proofs.RosterLaws.{roster_frame, roster_same}
use Rattle.state.specs.View.{cells_of, view_at}
use Rattle.state.specs.Sound.{Used, SoundAt, is_listed}
use Rattle.state.specs.Moves.{Apart, Stands, with_cell}
use Rattle.state.proofs.ViewLaws.{CellWords, Seen, held_eq, header_same, copy_same, cell_same}
use Rattle.state.proofs.SoundLaws.{Kept, laid_same}
use Rattle.state.proofs.FindLaws.{cell_used, used_is}
use Rattle.state.proofs.RowSteps.{Counted, Listing, row_stands}
use Rattle.places.specs.Status.{Says, Tallied}
use Rattle.places.specs.Steps.{Replaces, TakesOut, Marks}
use Rattle.places.proofs.PlaceLaws.{copies_laid, copies_seen, copies_rest, copies_kept, copies_apart, copies_roster, copies_listed, row_cell, now_cell, counts_follow}

-- ---- a row with another copy in one store ----

module _ (m m₁ : List ℕ) (at k : ℕ) (x : Option model.Copy) (is : copy_at m₁ (at + 20 + 12 * k) ≡ x)
    (only : (a : ℕ) → (at + 20 + 12 * k ≤ a → a < at + 20 + 12 * k + 12 → ⊥) → word m₁ a ≡ word m a) where
  copy_else : (o : ℕ) → o ≤ 2 → (o ≡ k → ⊥) → copy_at m₁ (at + 20 + 12 * o) ≡ copy_at m (at + 20 + 12 * o)
  copy_else o l ne = copy_same m m₁ (at + 20 + 12 * o) (λ a y z. only a (omega arith))

  -- the copies by where they stand
  else_at : (o b : ℕ) → o ≤ 2 → (o ≡ k → ⊥) → b ≡ at + 20 + 12 * o → copy_at m₁ b ≡ copy_at m b
  else_at o b l ne e = rw e (copy_else o l ne)

  here_at : (b : ℕ) → b ≡ at + 20 + 12 * k → copy_at m₁ b ≡ x
  here_at b e = rw e is

  header_else : header_at m₁ (at + 4) ≡ header_at m (at + 4)
  header_else = header_same m m₁ (at + 4) (λ a y z. only a (omega arith))

  held_by_lem : (j : ℕ) → j ≤ 2 → j ≡ k → held_at m₁ at ≡ set_copy (store_of j) x (held_at m at)
  unfolding set_copy
  held_by_lem zero l z = held_eq header_else (only (at + 1) (omega arith)) (here_at (at + 20) (omega arith)) (else_at 1 (at + 32) (omega arith) (omega arith) (omega arith)) (else_at 2 (at + 44) (omega arith) (omega arith) (omega arith))
  held_by_lem (suc zero) l z = held_eq header_else (only (at + 1) (omega arith)) (else_at 0 (at + 20) (omega arith) (omega arith) (omega arith)) (here_at (at + 32) (omega arith)) (else_at 2 (at + 44) (omega arith) (omega arith) (omega arith))
  held_by_lem (suc (suc zero)) l z = held_eq header_else (only (at + 1) (omega arith)) (else_at 0 (at + 20) (omega arith) (omega arith) (omega arith)) (else_at 1 (at + 32) (omega arith) (omega arith) (omega arith)) (here_at (at + 44) (omega arith))
  held_by_lem (suc (suc (suc j))) l z = absurd (omega arith)

  pub held_with : k ≤ 2 → held_at m₁ at ≡ set_copy (store_of k) x (held_at m at)
  held_with l = held_by_lem k l refl

-- a store that holds a copy makes the place held
pub set_held : (k : Store) (x : model.Copy) (h : Held) → is_held (held (set_copy k (some x) h)) ≡ true
unfolding is_held set_copy effective
set_held active x h = refl
set_held forks x h = by h.in_active
  where
    by : (o : Option model.Copy) → is_some (or_else o (some x)) ≡ true
    by none = refl
    by (some y) = refl
set_held canon x h = by h.in_active h.in_forks
  where
    by : (o p : Option model.Copy) → is_some (or_else o (or_else p (some x))) ≡ true
    by none none = refl
    by none (some z) = refl
    by (some y) p = refl

-- ---- replacing a copy ----

module _ (m m₁ m₂ : List ℕ) (n p k was is : ℕ) (c : Copy) (laid : Laid m n) (p<n : p < n) (l : k ≤ 2)
    (copied : Copied m m₁ (row p + 20 + 12 * k) c) (said : Says m (row p) was) (says : Says m₁ (row p) is) (t : Tallied m₁ m₂ was is) where
  long : length m₂ ≡ length m
  long = t.long ∙ copied.long

  only₁ : (a : ℕ) → (row p + 20 ≤ a → a < row p + 56 → ⊥) → word m₁ a ≡ word m a
  only₁ a h = copied.only a (λ x y. h (omega arith) (omega arith))

  only : (a : ℕ) → (row p + 20 ≤ a → a < row p + 56 → ⊥) → (11 ≤ a → a < 14 → ⊥) → word m₂ a ≡ word m a
  only a h g = t.only a g ∙ only₁ a h

  module _ (b : model.Block) (same : copy_means c ≡ b.copy) (s : SoundAt m n) (taken : is_free ((view_at m n).holdings.cells p) ≡ false) where
    used : Used m p
    unfolding view_at
    used = (cell_used m n p taken).1

    new_cell : cell_at m₂ p ≡ kept (store_of k) b ((view_at m n).holdings.cells p)
    unfolding view_at kept
    new_cell =
        now_cell m m₁ m₂ n p was is s p<n used only₁ said says t
        ∙ ap held (held_with m m₁ (row p) k (some (copy_means c)) copied.is (λ a h. copied.only a h) l ∙ ap (λ (z : model.Copy). set_copy (store_of k) (some z) (held_at m (row p))) same)
        ∙ sym (ap (kept (store_of k) b) (used_is m n p p<n used))

    listing : Listing m m₂ n p
    unfolding view_at kept
    listing = record {
      roster = copies_roster m m₂ n p p<n long only s.roster;
      stays = copies_listed m m₂ n p p<n long only;
      joins = λ e f. no_both (is_held (cell_at m₂ p)) (ap is_held (new_cell ∙ ap (kept (store_of k) b) (used_is m n p p<n used)) ∙ set_held (store_of k) b.copy (held_at m (row p))) f;
    }

    stands : Stands m₂ n (with_cell (view_at m n) p (kept (store_of k) b ((view_at m n).holdings.cells p)))
    stands =
        subst (λ (z : Cell). Stands m₂ n (with_cell (view_at m n) p z)) new_cell
        (row_stands m m₂ n p s p<n (copies_laid m m₂ n p p<n long only laid) (copies_seen m m₂ n p p<n long only) (copies_rest m m₂ n p p<n long only)
        (counts_follow m m₁ m₂ n p was is s p<n used only₁ said says t) listing (copies_kept m m₂ n p p<n long only))

  pub replace_done : (b : model.Block) → copy_means c ≡ b.copy → Replaces m m₂ n p k b
  replace_done b same = record {
    laid = copies_laid m m₂ n p p<n long only laid;
    right = λ s h. stands b same s h.1;
    apart = λ s h. copies_apart m m₂ n p p<n long only;
  }

-- a store that is none: nothing is asked
pub replace_not : (m : List ℕ) (n p k : ℕ) (b : model.Block) → Laid m n → 2 < k → Replaces m m n p k b
replace_not m n p k b laid l = record { laid = laid; right = λ s h. let x = h.0 in absurd (omega arith); apart = λ s h. let x = h.0 in absurd (omega arith) }

-- ---- taking a copy out: the place joins the roster of those that the next sync may free ----

module _ (m m₁ m₂ m₃ : List ℕ) (n p k was is : ℕ) (laid : Laid m n) (p<n : p < n) (l : k ≤ 2)
    (out : Dropped m m₁ (row p + 20 + 12 * k)) (said : Says m (row p) was) (says : Says m₁ (row p) is) (t : Tallied m₁ m₂ was is)
    (added : Added m₂ m₃ n (vacant_at n) 15 66 p) where
  out_long : length m₂ ≡ length m
  out_long = t.long ∙ out.long

  out_only₁ : (a : ℕ) → (row p + 20 ≤ a → a < row p + 56 → ⊥) → word m₁ a ≡ word m a
  out_only₁ a h = out.only a (λ x y. h (omega arith) (omega arith))

  out_only : (a : ℕ) → (row p + 20 ≤ a → a < row p + 56 → ⊥) → (11 ≤ a → a < 14 → ⊥) → word m₂ a ≡ word m a
  out_only a h g = t.only a g ∙ out_only₁ a h

  -- the roster's own words, none of which a cell, an index or a contest reads
  listed_only : (a : ℕ) → (a ≡ 15 → ⊥) → (vacant_at n ≤ a → a < vacant_at n + n → ⊥) → (a ≡ 66 + 68 * p → ⊥) → word m₃ a ≡ word m₂ a
  listed_only a x y z = added.within a x y z

  only₃ : (a : ℕ) → (row p + 20 ≤ a → a < row p + 56 → ⊥) → (11 ≤ a → a < 16 → ⊥) → (vacant_at n ≤ a → a < vacant_at n + n → ⊥) → (a ≡ 66 + 68 * p → ⊥) → word m₃ a ≡ word m a
  only₃ a h g x y = listed_only a (λ z. g (omega arith) (omega arith)) x y ∙ out_only a h (λ u v. g (omega arith) (omega arith))

  long₃ : length m₃ ≡ length m
  long₃ = added.long ∙ out_long

  laid₃ : Laid m₃ n
  laid₃ = laid_same m m₃ n laid (only₃ 0 (omega arith) (omega arith) (omega arith) (omega arith)) (only₃ 1 (omega arith) (omega arith) (omega arith) (omega arith)) long₃

  apart₃ : Apart m m₃ n
  apart₃ = record {
    long = long₃;
    rows = λ q k h x y. only₃ (row q + k) (omega arith) (omega arith) (omega arith) (omega arith);
    headers = λ q k h u x y. only₃ (row q + k) (omega arith) (omega arith) (omega arith) (omega arith);
    used = λ q h u. only₃ (row q) (omega arith) (omega arith) (omega arith) (omega arith) ∙ u;
    contests = λ a x y. only₃ a (omega arith) (omega arith) (omega arith) (omega arith);
    leaves = λ a x y. only₃ a (omega arith) (omega arith) (omega arith) (omega arith);
    leaf_count = added.within 14 (omega arith) (omega arith) (omega arith) ∙ out_only 14 (omega arith) (omega arith);
  }

  module _ (s : SoundAt m n) (taken : is_free ((view_at m n).holdings.cells p) ≡ false) where
    out_used : Used m p
    unfolding view_at
    out_used = (cell_used m n p taken).1

    seen₃ : Seen m m₃ n
    seen₃ = record {
      head = λ a h. only₃ a (omega arith) (omega arith) (omega arith) (omega arith);
      values = λ q h k x y z. only₃ (row q + k) (omega arith) (omega arith) (omega arith) (omega arith);
      ring = λ a h. only₃ a (omega arith) (omega arith) (omega arith) (omega arith);
    }

    rest₃ : (q : ℕ) → q < n → (q ≡ p → ⊥) → CellWords m m₃ q
    rest₃ q h ne k l x y = only₃ (row q + k) (omega arith) (omega arith) (omega arith) (omega arith)

    kept₃ : Kept m m₃ n
    kept₃ = record {
      used = λ q h. only₃ (row q) (omega arith) (omega arith) (omega arith) (omega arith);
      headers = λ q a h x y. only₃ a (omega arith) (omega arith) (omega arith) (omega arith);
      indexes = λ a x y. only₃ a (omega arith) (omega arith) (omega arith) (omega arith);
      free = λ a x y. only₃ a (omega arith) (omega arith) (omega arith) (omega arith);
    }

    same_cell : cell_at m₃ p ≡ cell_at m₂ p
    same_cell = cell_same m₂ m₃ p (λ k l x y. listed_only (row p + k) (omega arith) (omega arith) (omega arith))

    out_cell : cell_at m₃ p ≡ dropped (store_of k) ((view_at m n).holdings.cells p)
    unfolding view_at dropped
    out_cell =
        same_cell ∙ now_cell m m₁ m₂ n p was is s p<n out_used out_only₁ said says t
        ∙ ap held (held_with m m₁ (row p) k none out.is (λ a h. out.only a (λ x y. h (omega arith) (omega arith))) l)
        ∙ sym (ap (dropped (store_of k)) (used_is m n p p<n out_used))

    counted₃ : Counted m m₃ n p
    counted₃ =
        let c = counts_follow m m₁ m₂ n p was is s p<n out_used out_only₁ said says t in
        let w : (a : ℕ) → 11 ≤ a → a < 14 → word m₃ a ≡ word m₂ a = λ a x y. listed_only a (omega arith) (omega arith) (omega arith) in
        record {
          effective = rw (w 11 (omega arith) (omega arith), same_cell) c.effective;
          live = rw (w 12 (omega arith) (omega arith), same_cell) c.live;
          canonical = rw (w 13 (omega arith) (omega arith), same_cell) c.canonical;
        }

    listing₃ : Listing m m₃ n p
    listing₃ =
        let r = copies_roster m m₂ n p p<n out_long out_only s.roster in
        record {
          roster = added.well r;
          stays = λ q h e. by_bool (eqb q p) (λ i. let z : q ≡ p = eqb-true q p i in rw z (added.now_in r)) (λ i. added.others r q h (eqb-false q p i) ∙ copies_listed m m₂ n p p<n out_long out_only q h e);
          joins = λ e f. added.now_in r;
        }

    out_stands : Stands m₃ n (with_cell (view_at m n) p (dropped (store_of k) ((view_at m n).holdings.cells p)))
    out_stands = subst (λ (z : Cell). Stands m₃ n (with_cell (view_at m n) p z)) out_cell (row_stands m m₃ n p s p<n laid₃ seen₃ rest₃ counted₃ listing₃ kept₃)

  pub takeout_done : TakesOut m m₃ n p k
  takeout_done = record { laid = laid₃; right = λ s h. out_stands s h.1; apart = λ s h. apart₃ }

pub takeout_not : (m : List ℕ) (n p k : ℕ) → Laid m n → 2 < k → TakesOut m m n p k
takeout_not m n p k laid l = record { laid = laid; right = λ s h. let x = h.0 in absurd (omega arith); apart = λ s h. let x = h.0 in absurd (omega arith) }

-- ---- marking an answer ----

module _ (m m' : List ℕ) (n p a : ℕ) (laid : Laid m n) (p<n : p < n) (st : Stored m m' (row p + 1) a) where
  mark_only : (i : ℕ) → (i ≡ row p + 1 → ⊥) → word m' i ≡ word m i
  mark_only i h = stored_other st i h

  mark_laid : Laid m' n
  mark_laid = laid_same m m' n laid (mark_only 0 (omega arith)) (mark_only 1 (omega arith)) (stored_long st)

  module _ (s : SoundAt m n) (taken : is_free ((view_at m n).holdings.cells p) ≡ false) where
    mark_used : Used m p
    unfolding view_at
    mark_used = (cell_used m n p taken).1

    mark_held : held_at m' (row p) ≡ set_answer (answer_of a) (held_at m (row p))
    unfolding set_answer
    mark_held =
        held_eq (header_same m m' (row p + 4) (λ i x y. mark_only i (omega arith))) (stored_same st (let f = laid.fits in omega arith))
        (copy_same m m' (row p + 20) (λ i x y. mark_only i (omega arith))) (copy_same m m' (row p + 32) (λ i x y. mark_only i (omega arith))) (copy_same m m' (row p + 44) (λ i x y. mark_only i (omega arith)))

    mark_row : cell_at m' p ≡ held (set_answer (answer_of a) (held_at m (row p)))
    mark_row = row_cell m' p (mark_only (row p) (omega arith) ∙ mark_used) ∙ ap held mark_held

    mark_cell : cell_at m' p ≡ answered (answer_of a) ((view_at m n).holdings.cells p)
    unfolding view_at answered
    mark_cell = mark_row ∙ sym (ap (answered (answer_of a)) (used_is m n p p<n mark_used))

    -- an answer changes neither what is held nor what is live or canonical
    mark_test : (test : Cell → Bool) → ((h : Held) → test (held (set_answer (answer_of a) h)) ≡ test (held h)) → test (cells_of m n p) ≡ test (cell_at m' p)
    mark_test test e = ap test (used_is m n p p<n mark_used) ∙ sym (e (held_at m (row p))) ∙ sym (ap test mark_row)

    mark_count : (test : Cell → Bool) (w w' : ℕ) → w' ≡ w → ((h : Held) → test (held (set_answer (answer_of a) h)) ≡ test (held h)) → w' + cond (test (cells_of m n p)) 1 0 ≡ w + cond (test (cell_at m' p)) 1 0
    mark_count test w w' z e = rw (z, mark_test test e)

    mark_counted : Counted m m' n p
    unfolding is_held is_live is_canonical effective set_answer
    mark_counted = record {
      effective = mark_count is_held (word m 11) (word m' 11) (mark_only 11 (omega arith)) (λ h. refl);
      live = mark_count is_live (word m 12) (word m' 12) (mark_only 12 (omega arith)) (λ h. refl);
      canonical = mark_count is_canonical (word m 13) (word m' 13) (mark_only 13 (omega arith)) (λ h. refl);
    }

    mark_listed : (q : ℕ) → q < n → is_listed m' n q ≡ is_listed m n q
    mark_listed = roster_same m m' n (vacant_at n) 15 66 (mark_only 15 (omega arith)) (λ i h. mark_only (vacant_at n + i) (omega arith)) (λ q h. mark_only (66 + 68 * q) (omega arith))

    mark_listing : Listing m m' n p
    unfolding is_free is_held effective set_answer
    mark_listing = record {
      roster = roster_frame m m' n (vacant_at n) 15 66 (mark_only 15 (omega arith)) (λ i h. mark_only (vacant_at n + i) (omega arith)) (λ q h. mark_only (66 + 68 * q) (omega arith)) s.roster;
      stays = λ q h e. mark_listed q h ∙ e;
      joins = λ e f. mark_listed p p<n ∙ s.vacant p p<n (ap is_free (used_is m n p p<n mark_used)) (mark_test is_held (λ h. refl) ∙ f);
    }

    mark_stands : Stands m' n (with_cell (view_at m n) p (answered (answer_of a) ((view_at m n).holdings.cells p)))
    mark_stands =
        subst (λ (z : Cell). Stands m' n (with_cell (view_at m n) p z)) mark_cell
        (row_stands m m' n p s p<n mark_laid
        (record { head = λ i h. mark_only i (omega arith); values = λ q h k x y z. mark_only (row q + k) (omega arith); ring = λ i h. mark_only i (omega arith) })
        (λ q h ne k l x y. mark_only (row q + k) (omega arith)) mark_counted mark_listing
        (record { used = λ q h. mark_only (row q) (omega arith); headers = λ q i h x y. mark_only i (omega arith); indexes = λ i x y. mark_only i (omega arith); free = λ i x y. mark_only i (omega arith) }))

  pub mark_done : Marks m m' n p a
  mark_done = record {
    laid = mark_laid;
    right = mark_stands;
    apart = λ s h. record {
      long = stored_long st;
      rows = λ q k h x y. mark_only (row q + k) (omega arith);
      headers = λ q k h u x y. mark_only (row q + k) (omega arith);
      used = λ q h u. mark_only (row q) (omega arith) ∙ u;
      contests = λ i x y. mark_only i (omega arith);
      leaves = λ i x y. mark_only i (omega arith);
      leaf_count = mark_only 14 (omega arith);
    };
  }
