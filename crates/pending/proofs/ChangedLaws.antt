-- The hashes touched since a version, those that have room, become pending: one entry of the journal after another.
use mathlib.Core.Path.{◌≡◌, refl, sym, ap, ◌∙◌}
use mathlib.Core.Bool.{Bool, true, false, not, ◌&&◌, ◌||◌}
use mathlib.Core.List.{List, [], ◌∷◌}
use mathlib.Core.Option.{some}
use Prim.Native.Nat.{ℕ, ◌+◌, ◌*◌, ◌≤◌, ◌<◌}
use native.Mathlib.Numerals.{add-one}
use native.Mathlib.Omega.{arith}
use lib.Dec.{eqb}
use borrow.Author.Tests.{eqb-true, eqb-false}
use Rattle.model.specs.Lists.{elem}
use Rattle.model.specs.Holding.{Cell, free, held, has_room, place_of}
use Rattle.model.specs.Relink.{Pending, changed_in}
use Rattle.model.proofs.Tools.{by_bool, or_none, first_some, first_none}
use Rattle.memory.specs.Words.{word}
use Rattle.memory.specs.Layout.{ring, Laid}
use Rattle.journal.specs.Journal.{slot_of, touched_at, last_at, Journaled}
use Rattle.journal.specs.Changes.{Later, changes_of, lasts}
use Rattle.journal.proofs.ListLaws.{lasts_none}
use Rattle.journal.proofs.ChangesLaws.{last_more, last_not, later_is, changes_listed}
use Rattle.state.specs.View.{cells_of, view_at}
use Rattle.state.specs.Sound.{Used, SoundAt, placed}
use Rattle.state.proofs.FindLaws.{placed_in, placed_out, cell_hash}
use Rattle.state.proofs.ViewLaws.{slot_same, touched_same}
use Rattle.pending.specs.Pending.{PendOnly, Turns}
use Rattle.pending.proofs.TurnLaws.{pend_cell, turns_none, turns_as, turns_then, or_swap}

-- ---- one entry ----

abbrev pub EntryAdded : List ℕ → List ℕ → ℕ → ℕ → Type 0
EntryAdded m m' n i = Turns m m' n (i < word m 4) (λ pend q. pend q || (last_at m n i && has_room (touched_at m n i) (cells_of m n q)))

-- where the place that was found is r
module _ (m : List ℕ) (n x r : ℕ) (s : SoundAt m n) (found : place_of (view_at m n).holdings x ≡ placed n r) where
  no_room : n ≤ r → (q : ℕ) → q < n → has_room x (cells_of m n q) ≡ false
  unfolding place_of view_at
  no_room l q h = first_none (λ q. has_room x (cells_of m n q)) n q (found ∙ placed_out n r l) h

  room_here : r < n → has_room x (cells_of m n r) ≡ true
  unfolding place_of view_at
  room_here l = (first_some (λ q. has_room x (cells_of m n q)) n r (found ∙ placed_in n r l)).0

  room_at : r < n → (q : ℕ) → q < n → eqb q r ≡ has_room x (cells_of m n q)
  room_at l q h =
      by_bool (eqb q r) (λ e. let z : q ≡ r = eqb-true q r e in e ∙ rw z (sym (room_here l)))
      (λ e. by_bool (has_room x (cells_of m n q))
      (λ i. let a = cell_hash m n q x i in let b = cell_hash m n r x (room_here l) in
      absurd (eqb-false q r e (s.keys q r h l a.1 b.1 (a.2 ∙ sym b.2)))) (λ i. e ∙ sym i))

module _ (m m' : List ℕ) (n i : ℕ) (t : Bool) (tells : Journaled m n → i < word m 4 → t ≡ last_at m n i) where
  last_is : (b : Bool) → t ≡ b → SoundAt m n → i < word m 4 → last_at m n i ≡ b
  last_is b e s l = sym (tells s.journal l) ∙ e

  module _ (x r : ℕ) (is : t ≡ true) (reads : Journaled m n → i < word m 4 → x ≡ touched_at m n i)
      (finds : SoundAt m n → place_of (view_at m n).holdings x ≡ placed n r) where
    found_of : SoundAt m n → i < word m 4 → place_of (view_at m n).holdings (touched_at m n i) ≡ placed n r
    found_of s l = ap (place_of (view_at m n).holdings) (sym (reads s.journal l)) ∙ finds s

    pub entry_none : n ≤ r → EntryAdded m m n i
    entry_none l =
        turns_none m n (i < word m 4) (λ pend q. pend q || (last_at m n i && has_room (touched_at m n i) (cells_of m n q)))
        (λ s k pend q h. rw (last_is true is s k, no_room m n (touched_at m n i) r s (found_of s k) l q h) (sym (or_none (pend q))))

    pub entry_new : r < n → Turns m m' n (Used m r) (λ pend q. pend q || eqb q r) → EntryAdded m m' n i
    entry_new l =
        turns_as m m' n (Used m r) (i < word m 4) (λ pend q. pend q || eqb q r) (λ pend q. pend q || (last_at m n i && has_room (touched_at m n i) (cells_of m n q)))
        (λ s k. (cell_hash m n r (touched_at m n i) (room_here m n (touched_at m n i) r s (found_of s k) l)).1)
        (λ s k pend q h. rw (last_is true is s k, room_at m n (touched_at m n i) r s (found_of s k) l q h))

-- ---- the newest entries ----

-- the hashes of the i newest, where there are k
abbrev pub NewestAdded : List ℕ → List ℕ → ℕ → ℕ → ℕ → Type 0
NewestAdded m m' n k i = Turns m m' n (k ≤ word m 4) (λ pend q. pend q || changed_in (lasts (touched_at m n) i) (cells_of m n q))

changed_none : (c : Cell) → changed_in [] c ≡ false
unfolding changed_in elem
changed_none free = refl
changed_none (held c) = refl

changed_one : (b : Bool) (l : List ℕ) (x : ℕ) (c : Cell) → ((b || changed_in l c) || has_room x c) ≡ (b || changed_in (x ∷ l) c)
unfolding changed_in elem has_room
changed_one true l x c = refl
changed_one false l x free = refl
changed_one false l x (held c) = or_swap (elem c.header.hash l) (eqb c.header.hash x)

pub newest_start : (m : List ℕ) (n k : ℕ) → NewestAdded m m n k 0
newest_start m n k =
    turns_none m n (k ≤ word m 4) (λ pend q. pend q || changed_in (lasts (touched_at m n) 0) (cells_of m n q))
    (λ s l pend q h. rw (lasts_none (touched_at m n), changed_none (cells_of m n q)) (sym (or_none (pend q))))

-- the journal is as it was
module _ (m m' : List ℕ) (n : ℕ) (o : PendOnly m m' n) where
  past : (a : ℕ) → ring n ≤ a → word m' a ≡ word m a
  past a h = o.after a (omega arith)

  touched_kept : (i : ℕ) → touched_at m' n i ≡ touched_at m n i
  touched_kept = touched_same m m' n (o.head 1 (omega arith)) (o.head 5 (omega arith)) past

  last_kept : (i : ℕ) → last_at m' n i ≡ last_at m n i
  last_kept i =
      ap (λ (e : ℕ). not (eqb (word m' (ring n + 5 * e + 4)) 1)) (slot_same m m' n (o.head 1 (omega arith)) (o.head 5 (omega arith)) past i)
      ∙ ap (λ (w : ℕ). not (eqb w 1)) (past (ring n + 5 * slot_of m i + 4) (omega arith))

module _ (m m₁ m₂ : List ℕ) (n k i : ℕ) (laid : Laid m n) (i<k : i < k) (a : NewestAdded m m₁ n k i) (b : EntryAdded m₁ m₂ n i) where
  one_more : SoundAt m n → k ≤ word m 4 → (pend : Pending) (q : ℕ)
      → ((pend q || changed_in (lasts (touched_at m n) i) (cells_of m n q)) || (last_at m n i && has_room (touched_at m n i) (cells_of m n q)))
      ≡ (pend q || changed_in (lasts (touched_at m n) (i + 1)) (cells_of m n q))
  one_more s l pend q =
      by_bool (last_at m n i)
      (λ e. rw (e, add-one i, last_more m n i s.journal (omega arith) e) (changed_one (pend q) (lasts (touched_at m n) i) (touched_at m n i) (cells_of m n q)))
      (λ e. rw (e, add-one i, last_not m n i s.journal (omega arith) e) (or_none (pend q || changed_in (lasts (touched_at m n) i) (cells_of m n q))))

  pub newest_more : NewestAdded m m₂ n k (i + 1)
  newest_more =
      turns_then m m₁ m₂ n (k ≤ word m 4) (i < word m₁ 4) (λ pend q. pend q || changed_in (lasts (touched_at m n) i) (cells_of m n q))
      (λ pend q. pend q || (last_at m₁ n i && has_room (touched_at m₁ n i) (cells_of m₁ n q))) (λ pend q. pend q || changed_in (lasts (touched_at m n) (i + 1)) (cells_of m n q)) laid
      (λ s l. let e : word m₁ 4 ≡ word m 4 = a.only.head 4 (omega arith) in omega arith)
      (λ s l pend q h. rw (last_kept m m₁ n a.only i, touched_kept m m₁ n a.only i, pend_cell m m₁ n laid a.only q) (one_more s l pend q)) a b

pub newest_done : (m m' : List ℕ) (n v k i : ℕ) → Later m v k → i ≤ k → k ≤ i → NewestAdded m m' n k i
    → (g : ℕ) (l : List ℕ) → Turns m m' n (changes_of m n g v ≡ some l) (λ pend q. pend q || changed_in l (cells_of m n q))
newest_done m m' n v k i r x y t g l =
    turns_as m m' n (k ≤ word m 4) (changes_of m n g v ≡ some l) (λ pend q. pend q || changed_in (lasts (touched_at m n) i) (cells_of m n q)) (λ pend q. pend q || changed_in l (cells_of m n q))
    (λ s c. (later_is m n v k r s.journal (changes_listed m n g v l c)).1)
    (λ s c pend q h. let z : i ≡ k = omega arith in
    let e : l ≡ lasts (touched_at m n) k = (later_is m n v k r s.journal (changes_listed m n g v l c)).2 in rw (e, z)) t
