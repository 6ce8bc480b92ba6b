-- New room: a free place that is filled and joins the indexes leaves the memory sound, with the record in its cell.
use mathlib.Core.Path.{◌≡◌, refl, sym, ap, ◌∙◌, subst}
use mathlib.Core.Bool.{Bool, true, false, cond}
use mathlib.Core.List.{List}
use mathlib.Core.Logic.{◌⊎◌, inl, inr, ⊎_elim}
use mathlib.Core.Option.{none, some}
use Prim.Native.Nat.{ℕ, ◌+◌, ◌*◌, ◌≤◌, ◌<◌}
use native.Mathlib.Decide.{ℕ_discrete}
use native.Mathlib.Omega.{arith}
use lib.ListN.{length}
use Rattle.model.specs.Record as model
use Rattle.model.specs.Holding.{store_of, Cell, free, held, new_room, is_free, is_held, is_live, is_canonical, kept, place_of, free_place}
use Rattle.model.proofs.Tools.{no_both, first_some}
use Rattle.model.proofs.Sums.{count_below}
use Rattle.block.specs.Records.{header_means, copy_means}
use Rattle.block.specs.declared.Header.{Header}
use Rattle.block.specs.declared.Copy.{Copy}
use Rattle.memory.specs.Words.{word}
use Rattle.memory.specs.Layout.{row, by_hash, by_prev, nodes, vacant_at, Laid}
use Rattle.memory.proofs.WordLaws.{seg_same}
use Rattle.rows.specs.Rows.{header_at, held_at, cell_at}
use Rattle.index.specs.Index.{Keyed}
use Rattle.index.specs.Keys.{key_at}
use Rattle.index.proofs.IndexLaws.{keyed_frame, keyed_insert}
use Rattle.contest.specs.Tree.{WF}
use Rattle.contest.specs.Contests as contest
use Rattle.contest.proofs.Uses.{still, again, same_free, same_free_but}
use Rattle.roster.proofs.RosterLaws.{roster_frame, roster_same}
use Rattle.state.specs.View.{cells_of, view_at}
use Rattle.state.specs.Sound.{Used, hash_at, SoundAt}
use Rattle.state.specs.Moves.{Apart, Stands, with_cell}
use Rattle.state.proofs.ViewLaws.{CellWords, Seen, held_eq, header_same, copy_same}
use Rattle.state.proofs.SoundLaws.{laid_same, journaled_same}
use Rattle.state.proofs.FindLaws.{free_is, used_cell, none_place}
use Rattle.state.proofs.RowSteps.{Counted, Listing, row_view, row_effective, row_live, row_canonical, row_vacant}
use Rattle.places.specs.Status.{held_by, live_by, canonical_by, Says, Tallied}
use Rattle.places.specs.Admits.{Fills, Joins, Admits}
use Rattle.places.proofs.PlaceLaws.{row_cell}
use Rattle.places.proofs.StepLaws.{set_held}

module _ (m m₁ m₂ m₃ : List ℕ) (n p k is : ℕ) (h : Header) (c : Copy) (laid : Laid m n) (p<n : p < n) (l : k ≤ 2)
    (fills : Fills m m₁ p k h c) (joins : Joins m₁ m₂ n p) (says : Says m₂ (row p) is) (t : Tallied m₂ m₃ 0 is) where
  long : length m₃ ≡ length m
  long = t.long ∙ joins.taken.long ∙ joins.named.long ∙ joins.hashed.long ∙ fills.long

  -- what each step leaves
  joined : (a : ℕ) → (by_hash n ≤ a → a < nodes n 0 → ⊥) → (nodes n 3 ≤ a → a < nodes n 4 → ⊥) → word m₂ a ≡ word m₁ a
  joined a x y =
      joins.taken.only a (λ u v. y (omega arith) (omega arith)) ∙ joins.named.only a (λ u v. x (omega arith) (omega arith)) ∙ joins.hashed.only a (λ u v. x (omega arith) (omega arith))

  only : (a : ℕ) → (row p ≤ a → a < row p + 2 → ⊥) → (row p + 4 ≤ a → a < row p + 56 → ⊥) → (11 ≤ a → a < 14 → ⊥)
      → (by_hash n ≤ a → a < nodes n 0 → ⊥) → (nodes n 3 ≤ a → a < nodes n 4 → ⊥) → word m₃ a ≡ word m a
  only a x y z u v = t.only a z ∙ joined a u v ∙ fills.only a x y

  -- row p reads as it was filled
  row_kept : (a : ℕ) → row p ≤ a → a < row p + 68 → word m₃ a ≡ word m₁ a
  row_kept a x y = t.only a (omega arith) ∙ joined a (omega arith) (omega arith)

  used₁ : Used m₁ p
  used₁ = fills.used

  used₃ : Used m₃ p
  used₃ = row_kept (row p) (omega arith) (omega arith) ∙ used₁

  header₃ : header_at m₃ (row p + 4) ≡ header_means h
  header₃ = header_same m₁ m₃ (row p + 4) (λ a x y. row_kept a (omega arith) (omega arith)) ∙ fills.header

  held₃ : held_at m₃ (row p) ≡ held_at m₁ (row p)
  held₃ =
      held_eq (header_same m₁ m₃ (row p + 4) (λ a x y. row_kept a (omega arith) (omega arith))) (row_kept (row p + 1) (omega arith) (omega arith))
      (copy_same m₁ m₃ (row p + 20) (λ a x y. row_kept a (omega arith) (omega arith))) (copy_same m₁ m₃ (row p + 32) (λ a x y. row_kept a (omega arith) (omega arith))) (copy_same m₁ m₃ (row p + 44) (λ a x y. row_kept a (omega arith) (omega arith)))

  cell₃ : cell_at m₃ p ≡ kept (store_of k) (record { header = header_means h; copy = copy_means c }) free
  cell₃ = row_cell m₃ p used₃ ∙ ap held held₃ ∙ sym (row_cell m₁ p used₁) ∙ fills.is l

  held₂ : held_at m₃ (row p) ≡ held_at m₂ (row p)
  held₂ =
      held_eq (header_same m₂ m₃ (row p + 4) (λ a x y. t.only a (omega arith))) (t.only (row p + 1) (omega arith))
      (copy_same m₂ m₃ (row p + 20) (λ a x y. t.only a (omega arith))) (copy_same m₂ m₃ (row p + 32) (λ a x y. t.only a (omega arith))) (copy_same m₂ m₃ (row p + 44) (λ a x y. t.only a (omega arith)))

  laid₃ : Laid m₃ n
  laid₃ = laid_same m m₃ n laid (only 0 (omega arith) (omega arith) (omega arith) (omega arith) (omega arith)) (only 1 (omega arith) (omega arith) (omega arith) (omega arith) (omega arith)) long

  other : (q a : ℕ) → q < n → (q ≡ p → ⊥) → row q ≤ a → a < row q + 68 → word m₃ a ≡ word m a
  other q a i ne x y = only a (omega arith) (omega arith) (omega arith) (omega arith) (omega arith)

  other₁ : (q a : ℕ) → q < n → (q ≡ p → ⊥) → row q ≤ a → a < row q + 68 → word m₁ a ≡ word m a
  other₁ q a i ne x y = fills.only a (omega arith) (omega arith)

  module _ (unused : Used m p → ⊥) where
    ne_used : (q : ℕ) → Used m q → q ≡ p → ⊥
    ne_used q u e = unused (subst (Used m) e u)

    apart₃ : Apart m m₃ n
    apart₃ = record {
      long = long;
      rows = λ q j i x y. only (row q + j) (omega arith) (omega arith) (omega arith) (omega arith) (omega arith);
      headers = λ q j i u x y. let ne = ne_used q u in other q (row q + j) i ne (omega arith) (omega arith);
      used = λ q i u. let ne = ne_used q u in other q (row q) i ne (omega arith) (omega arith) ∙ u;
      contests = λ a x y. only a (omega arith) (omega arith) (omega arith) (omega arith) (omega arith);
      leaves = λ a x y. only a (omega arith) (omega arith) (omega arith) (omega arith) (omega arith);
      leaf_count = only 14 (omega arith) (omega arith) (omega arith) (omega arith) (omega arith);
    }

    -- who is used now
    used_to : (q : ℕ) → q < n → Used m q → Used m₃ q
    used_to q i u = other q (row q) i (ne_used q u) (omega arith) (omega arith) ∙ u

    used_of : (q : ℕ) → q < n → Used m₃ q → Used m q ⊎ (q ≡ p)
    used_of q i u = by (ℕ_discrete q p)
      where
        by : Dec (q ≡ p) → Used m q ⊎ (q ≡ p)
        by (yes e) = inr e
        by (no ne) = inl (sym (other q (row q) i ne (omega arith) (omega arith)) ∙ u)

    key_else : (a b : List ℕ) (o q : ℕ) → ((i : ℕ) → row q ≤ i → i < row q + 68 → word b i ≡ word a i) → 68 ≤ o → o ≤ 72 → key_at b o false q ≡ key_at a o false q
    key_else a b o q f x y = seg_same a b (o + 68 * q) 4 (λ i z. f (o + 68 * q + i) (omega arith) (omega arith))

    module _ (s : SoundAt m n) where
      hashes₁ : Keyed m₁ n (by_hash n) (key_at m₁ 68 false) (Used m)
      hashes₁ =
          keyed_frame m m₁ n (by_hash n) (key_at m 68 false) (key_at m₁ 68 false) (Used m) (Used m)
          (λ q i u. key_else m m₁ 68 q (λ a x y. other₁ q a i (ne_used q u) x y) (omega arith) (omega arith)) s.hashes
          (λ a x y. fills.only a (omega arith) (omega arith)) (λ q i u. u) (λ q i u. u)

      hashes₂ : Keyed joins.mid₁ n (by_hash n) (key_at joins.mid₁ 68 false) (Used m₃)
      hashes₂ =
          keyed_insert m₁ joins.mid₁ n (by_hash n) (key_at m₁ 68 false) (key_at joins.mid₁ 68 false) (Used m) (Used m₃)
          (λ q i u. key_else m₁ joins.mid₁ 68 q (λ a x y. joins.hashed.only a (omega arith)) (omega arith) (omega arith)) hashes₁ p p<n
          (key_else m₁ joins.mid₁ 68 p (λ a x y. joins.hashed.only a (omega arith)) (omega arith) (omega arith)) unused joins.hashed used_to used₃ used_of

      hashes₃ : Keyed m₃ n (by_hash n) (key_at m₃ 68 false) (Used m₃)
      hashes₃ =
          keyed_frame joins.mid₁ m₃ n (by_hash n) (key_at joins.mid₁ 68 false) (key_at m₃ 68 false) (Used m₃) (Used m₃)
          (λ q i u. key_else joins.mid₁ m₃ 68 q (λ a x y. later a (omega arith) (omega arith) (omega arith)) (omega arith) (omega arith)) hashes₂
          (λ a x y. later a (omega arith) (omega arith) (omega arith)) (λ q i u. u) (λ q i u. u)
        where
          later : (a : ℕ) → (by_prev n ≤ a → a < nodes n 0 → ⊥) → (nodes n 3 ≤ a → a < nodes n 4 → ⊥) → (11 ≤ a → a < 14 → ⊥) → word m₃ a ≡ word joins.mid₁ a
          later a x y z = t.only a z ∙ joins.taken.only a (λ u v. y (omega arith) (omega arith)) ∙ joins.named.only a (λ u v. x (omega arith) (omega arith))

      prevs₁ : Keyed joins.mid₁ n (by_prev n) (key_at joins.mid₁ 72 false) (Used m)
      prevs₁ =
          keyed_frame m joins.mid₁ n (by_prev n) (key_at m 72 false) (key_at joins.mid₁ 72 false) (Used m) (Used m)
          (λ q i u. key_else m joins.mid₁ 72 q (λ a x y. joins.hashed.only a (omega arith) ∙ other₁ q a i (ne_used q u) x y) (omega arith) (omega arith)) s.prevs
          (λ a x y. joins.hashed.only a (omega arith) ∙ fills.only a (omega arith) (omega arith)) (λ q i u. u) (λ q i u. u)

      prevs₂ : Keyed joins.mid₂ n (by_prev n) (key_at joins.mid₂ 72 false) (Used m₃)
      prevs₂ =
          keyed_insert joins.mid₁ joins.mid₂ n (by_prev n) (key_at joins.mid₁ 72 false) (key_at joins.mid₂ 72 false) (Used m) (Used m₃)
          (λ q i u. key_else joins.mid₁ joins.mid₂ 72 q (λ a x y. joins.named.only a (omega arith)) (omega arith) (omega arith)) prevs₁ p p<n
          (key_else joins.mid₁ joins.mid₂ 72 p (λ a x y. joins.named.only a (omega arith)) (omega arith) (omega arith)) unused joins.named used_to used₃ used_of

      prevs₃ : Keyed m₃ n (by_prev n) (key_at m₃ 72 false) (Used m₃)
      prevs₃ =
          keyed_frame joins.mid₂ m₃ n (by_prev n) (key_at joins.mid₂ 72 false) (key_at m₃ 72 false) (Used m₃) (Used m₃)
          (λ q i u. key_else joins.mid₂ m₃ 72 q (λ a x y. later a (omega arith) (omega arith)) (omega arith) (omega arith)) prevs₂
          (λ a x y. later a (omega arith) (omega arith)) (λ q i u. u) (λ q i u. u)
        where
          later : (a : ℕ) → (nodes n 3 ≤ a → a < nodes n 4 → ⊥) → (11 ≤ a → a < 14 → ⊥) → word m₃ a ≡ word joins.mid₂ a
          later a y z = t.only a z ∙ joins.taken.only a (λ u v. y (omega arith) (omega arith))

      free₃ : WF n (contest.view m₃ n 3)
      free₃ =
          still m₂ m₃ n 3 s.laid.few (same_free m₂ m₃ n (λ j i. t.only (nodes n 3 + j) (omega arith)) (λ q i. t.only (row q) (omega arith)))
          (again m joins.mid₂ n 3 m₂ p
          (same_free_but m joins.mid₂ n p
          (λ j i. joins.named.only (nodes n 3 + j) (omega arith) ∙ joins.hashed.only (nodes n 3 + j) (omega arith) ∙ fills.only (nodes n 3 + j) (omega arith) (omega arith))
          (λ q i ne. joins.named.only (row q) (omega arith) ∙ joins.hashed.only (row q) (omega arith) ∙ other₁ q (row q) i ne (omega arith) (omega arith)))
          joins.taken s.free)

      hash_else : (q : ℕ) → q < n → (q ≡ p → ⊥) → hash_at m₃ q ≡ hash_at m q
      hash_else q i ne = ap (λ (x : model.Header). x.hash) (header_same m m₃ (row q + 4) (λ a x y. other q a i ne (omega arith) (omega arith)))

      module _ (b : model.Block) (same : b ≡ record { header = header_means h; copy = copy_means c }) (nowhere : place_of (view_at m n).holdings b.header.hash ≡ none) where
        hash_new : hash_at m₃ p ≡ b.header.hash
        hash_new = ap (λ (x : model.Header). x.hash) header₃ ∙ sym (ap (λ (x : model.Block). x.header.hash) same)

        -- the hash of p is that of no other place
        no_twin : (q : ℕ) → q < n → Used m₃ q → (q ≡ p → ⊥) → hash_at m₃ q ≡ hash_at m₃ p → ⊥
        no_twin q i u ne e =
            none_place m n s b.header.hash nowhere q i (⊎_elim (λ w. w) (λ w. absurd (ne w)) (used_of q i u)) (sym (hash_else q i ne) ∙ e ∙ hash_new)

        keys₃ : (q r : ℕ) → q < n → r < n → Used m₃ q → Used m₃ r → hash_at m₃ q ≡ hash_at m₃ r → q ≡ r
        keys₃ q r i j u v e = by (ℕ_discrete q p) (ℕ_discrete r p)
          where
            by : Dec (q ≡ p) → Dec (r ≡ p) → q ≡ r
            by (yes x) (yes y) = x ∙ sym y
            by (yes x) (no y) = absurd (no_twin r j v y (sym e ∙ ap (hash_at m₃) x))
            by (no x) (yes y) = absurd (no_twin q i u x (e ∙ ap (hash_at m₃) y))
            by (no x) (no y) =
                s.keys q r i j (⊎_elim (λ w. w) (λ w. absurd (x w)) (used_of q i u)) (⊎_elim (λ w. w) (λ w. absurd (y w)) (used_of r j v)) (sym (hash_else q i x) ∙ e ∙ hash_else r j y)

        seen₃ : Seen m m₃ n
        seen₃ = record {
          head = λ a i. only a (omega arith) (omega arith) (omega arith) (omega arith) (omega arith);
          values = λ q i j x y z. only (row q + j) (omega arith) (omega arith) (omega arith) (omega arith) (omega arith);
          ring = λ a i. only a (omega arith) (omega arith) (omega arith) (omega arith) (omega arith);
        }

        rest₃ : (q : ℕ) → q < n → (q ≡ p → ⊥) → CellWords m m₃ q
        rest₃ q i ne j x y z = other q (row q + j) i ne (omega arith) (omega arith)

        was_free : cells_of m n p ≡ free
        was_free = free_is m n p p<n unused

        now_held : is_held (cell_at m₃ p) ≡ true
        unfolding kept
        now_held = ap is_held cell₃ ∙ set_held (store_of k) (copy_means c) (new_room (header_means h))

        -- one more of what the effective copy says
        more : (test : Cell → Bool) (by : ℕ → Bool) (w w₃ : ℕ) → test free ≡ false → by 0 ≡ false → test (held (held_at m₂ (row p))) ≡ by is → w ≤ n
            → (cond (by 0) 1 0 ≤ w → w < 18446744073709551615 → w₃ + cond (by 0) 1 0 ≡ w + cond (by is) 1 0)
            → w₃ + cond (test (cells_of m n p)) 1 0 ≡ w + cond (test (cell_at m₃ p)) 1 0
        more test by w w₃ e z f u g =
            let x : test (cells_of m n p) ≡ false = ap test was_free ∙ e in
            let y : test (cell_at m₃ p) ≡ by is = ap test (row_cell m₃ p used₃ ∙ ap held held₂) ∙ f in
            let few : n ≤ 32768 = s.laid.few in
            let g' : 0 ≤ w → w < 18446744073709551615 → w₃ + 0 ≡ w + cond (by is) 1 0 = rw z at g in
            rw (x, y) (g' (omega arith) (omega arith))

        count₂ : (a : ℕ) → 11 ≤ a → a < 14 → word m₂ a ≡ word m a
        count₂ a x y = joined a (omega arith) (omega arith) ∙ fills.only a (omega arith) (omega arith)

        counted₃ : Counted m m₃ n p
        unfolding view_at is_held is_live is_canonical
        counted₃ = record {
          effective = more is_held held_by (word m 11) (word m₃ 11) refl refl says.effective (rw s.effective (count_below (λ q. is_held (cells_of m n q)) n)) (rw (count₂ 11 (omega arith) (omega arith)) at t.effective);
          live = more is_live live_by (word m 12) (word m₃ 12) refl refl says.live (rw s.live (count_below (λ q. is_live (cells_of m n q)) n)) (rw (count₂ 12 (omega arith) (omega arith)) at t.live);
          canonical = more is_canonical canonical_by (word m 13) (word m₃ 13) refl refl says.canonical (rw s.canonical (count_below (λ q. is_canonical (cells_of m n q)) n)) (rw (count₂ 13 (omega arith) (omega arith)) at t.canonical);
        }

        size_kept : word m₃ 15 ≡ word m 15
        size_kept = only 15 (omega arith) (omega arith) (omega arith) (omega arith) (omega arith)

        members_kept : (i : ℕ) → i < n → word m₃ (vacant_at n + i) ≡ word m (vacant_at n + i)
        members_kept i x = only (vacant_at n + i) (omega arith) (omega arith) (omega arith) (omega arith) (omega arith)

        positions_kept : (q : ℕ) → q < n → word m₃ (66 + 68 * q) ≡ word m (66 + 68 * q)
        positions_kept q x = only (66 + 68 * q) (omega arith) (omega arith) (omega arith) (omega arith) (omega arith)

        listing₃ : Listing m m₃ n p
        listing₃ = record {
          roster = roster_frame m m₃ n (vacant_at n) 15 66 size_kept members_kept positions_kept s.roster;
          stays = λ q i e. roster_same m m₃ n (vacant_at n) 15 66 size_kept members_kept positions_kept q i ∙ e;
          joins = λ e f. no_both (is_held (cell_at m₃ p)) now_held f;
        }

        cell_is : cell_at m₃ p ≡ kept (store_of k) b ((view_at m n).holdings.cells p)
        unfolding view_at
        cell_is = cell₃ ∙ ap (λ (x : model.Block). kept (store_of k) x free) (sym same) ∙ sym (ap (kept (store_of k) b) was_free)

        stands₃ : Stands m₃ n (with_cell (view_at m n) p (kept (store_of k) b ((view_at m n).holdings.cells p)))
        stands₃ =
            subst (λ (z : Cell). Stands m₃ n (with_cell (view_at m n) p z)) cell_is
            (record {
              sound = record {
                laid = laid₃;
                hashes = hashes₃;
                prevs = prevs₃;
                keys = keys₃;
                free = free₃;
                roster = listing₃.roster;
                vacant = row_vacant m m₃ n p s p<n laid₃ seen₃ rest₃ counted₃ listing₃;
                effective = row_effective m m₃ n p s p<n laid₃ seen₃ rest₃ counted₃ listing₃;
                live = row_live m m₃ n p s p<n laid₃ seen₃ rest₃ counted₃ listing₃;
                canonical = row_canonical m m₃ n p s p<n laid₃ seen₃ rest₃ counted₃ listing₃;
                journal = journaled_same m m₃ n (seen₃.head 1 (omega arith)) (seen₃.head 4 (omega arith)) (seen₃.head 5 (omega arith)) seen₃.ring s.journal;
              };
              state = row_view m m₃ n p s p<n laid₃ seen₃ rest₃;
            })

  free_unused : free_place (view_at m n).holdings ≡ some p → Used m p → ⊥
  unfolding view_at free_place
  free_unused e u = no_both (is_free (cells_of m n p)) (first_some (λ q. is_free (cells_of m n q)) n p e).0 (used_cell m n p p<n u)

  pub admit_done : (b : model.Block) → b ≡ record { header = header_means h; copy = copy_means c } → Admits m m₃ n p k b
  admit_done b same = record {
    laid = laid₃;
    right = λ s g. stands₃ (free_unused g.1) s b same g.2;
    apart = λ s g. apart₃ (free_unused g.1);
  }

pub admit_not : (m : List ℕ) (n p k : ℕ) (b : model.Block) → Laid m n → 2 < k → Admits m m n p k b
admit_not m n p k b laid l = record { laid = laid; right = λ s g. let x = g.0 in absurd (omega arith); apart = λ s g. let x = g.0 in absurd (omega arith) }
