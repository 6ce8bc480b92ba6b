-- A touch keeps the journal and adds an entry to it.
use mathlib.Core.Path.{◌≡◌, refl, sym, ap, ◌∙◌, subst}
use mathlib.Core.Bool.{Bool, true, false, ◌||◌}
use mathlib.Core.Logic.{◌⊎◌, inl, inr, ⊎_elim}
use mathlib.Core.List.{List, [], ◌∷◌}
use Prim.Native.Nat.{ℕ, zero, suc, ◌+◌, ◌*◌, ◌%◌, ◌≤◌, ◌<◌}
use native.Mathlib.Decide.{ℕ_discrete}
use native.Mathlib.Omega.{arith}
use lib.Dec.{eqb, ltb}
use lib.ListN.{take}
use borrow.Author.Tests.{eqb-true, eq-eqb, ltb-true, ltb-false}
use Rattle.amount.specs.Choose.{◌if◌else◌}
use Rattle.model.specs.Lists.{elem}
use Rattle.model.proofs.Tools.{by_bool, no_both}
use Rattle.hash.specs.Hashes.{limb, join}
use Rattle.hash.proofs.HashLaws.{Words}
use Rattle.block.specs.Words.{quad}
use Rattle.memory.specs.Words.{word}
use Rattle.memory.specs.Layout.{ring, by_touch, Laid}
use Rattle.index.specs.Keys.{key_at}
use Rattle.index.specs.Index.{Keyed}
use Rattle.index.specs.Seeks.{Seeks}
use Rattle.index.specs.Visits.{Visits}
use Rattle.index.proofs.IndexLaws.{keyed_frame}
use Rattle.index.proofs.ListFacts.{below_or}
use Rattle.index.proofs.VisitLaws.{visits_start}
use Rattle.journal.specs.Journal.{tab, joined, back, entry_at, later_at, slot_of, touched_at, journal_of, Last, Indexed, Journaled}
use Rattle.journal.specs.Steps.{Slot, Forgets, Enters, Counted, overwritten_at}
use Rattle.journal.specs.Touches.{Touches}
use Rattle.journal.proofs.TabLaws.{tab_cons, ring_append}
use Rattle.journal.proofs.RingLaws.{back_below, back_oldest, back_other, turn_below, back_first, back_next}
use Rattle.journal.proofs.EntryLaws.{joined-quad, seg-joined, last_unique, slot_same, entry_same}

-- what is overwritten: nothing, in a ring that is not full or where the oldest is flagged; else the oldest
overwriting : {P : Type 0} (m : List ℕ) (n j at : ℕ) → ((word m 4 < j) ⊎ (later_at m n at ≡ true) → overwritten_at m n j at ≡ j → P)
    → (j ≤ word m 4 → later_at m n at ≡ false → overwritten_at m n j at ≡ at → P) → P
overwriting m n j at none oldest =
    by_bool (ltb (word m 4) j)
    (λ t. none (inl (ltb-true (word m 4) j t)) (rw t))
    (λ t. by_bool (later_at m n at) (λ u. none (inr u) (rw (t, u))) (λ u. oldest (ltb-false (word m 4) j t) u (rw (t, u))))

-- the ring of j slots has slot `at` next; the walk through the index came to r; then the five steps
module _ (m m₁ m₂ m₃ m₄ : List ℕ) (n at r a b c d : ℕ) (laid : Laid m n) (slot : Slot m at)
    (f₁ : Forgets m m₁ n (word m 1) r) (f₂ : Forgets m₁ m₂ n (word m 1) (overwritten_at m₁ n (word m 1) at))
    (en : Enters m₂ m₃ n (word m 1) at a b c d) (co : Counted m₃ m₄ (word m 1) at) where
  abbrev j : ℕ
  j = word m 1

  abbrev x : ℕ
  x = join a b c d

  below : at < j
  below = slot.below

  -- ---- frames ----

  low₁ : (i : ℕ) → i < ring n → word m₁ i ≡ word m i
  low₁ i h = f₁.only i (λ l. omega arith) (omega arith)

  low₂ : (i : ℕ) → i < ring n → word m₂ i ≡ word m i
  low₂ i h = f₂.only i (λ l. omega arith) (omega arith) ∙ low₁ i h

  low₃ : (i : ℕ) → i < ring n → word m₃ i ≡ word m i
  low₃ i h = en.only i (omega arith) (omega arith) ∙ low₂ i h

  high : (i : ℕ) → by_touch n j + 3 * j ≤ i → word m₃ i ≡ word m i
  high i h =
      en.only i (omega arith) (omega arith) ∙ f₂.only i (λ l. omega arith) (omega arith) ∙ f₁.only i (λ l. omega arith) (omega arith)

  outside : (i : ℕ) → (3 ≤ i → i < 8 → ⊥) → (ring n ≤ i → i < by_touch n j + 3 * j → ⊥) → word m₄ i ≡ word m i
  outside i u v = co.only i u ∙ ⊎_elim (low₃ i) (λ g. ⊎_elim (λ h. absurd (v g h)) (high i) (below_or i (by_touch n j + 3 * j))) (below_or i (ring n))

  room_same : word m₄ 1 ≡ j
  room_same = outside 1 (omega arith) (omega arith)

  turn_is : word m₄ 5 ≡ (at + 1 if ltb (at + 1) j else 0)
  turn_is = co.turn

  len_is : word m₄ 4 ≡ (word m 4 + 1 if ltb (word m 4) j else word m 4)
  len_is = co.len ∙ ap (λ (z : ℕ). z + 1 if ltb z j else z) (low₃ 4 (omega arith))

  -- the word at an address of the ring, of another slot than `at`, is that of m₁
  other_slot : (i q : ℕ) → q < j → (q ≡ at → ⊥) → ring n + 5 * q ≤ i → i < ring n + 5 * q + 5 → word m₄ i ≡ word m₁ i
  other_slot i q h ne u v =
      co.only i (omega arith) ∙ en.only i (λ y z. ne (omega arith)) (omega arith)
      ∙ overwriting m₁ n j at (λ k e. f₂.only i (λ l. omega arith) (omega arith)) (λ k g e. f₂.only i (λ l z. ne (omega arith)) (omega arith))

  later_same : (q : ℕ) → q < j → (q ≡ at → ⊥) → later_at m₄ n q ≡ later_at m₁ n q
  later_same q h ne = ap (λ (z : ℕ). eqb z 1) (other_slot (ring n + 5 * q + 4) q h ne (omega arith) (omega arith))

  entry_kept : (q : ℕ) → q < j → (q ≡ at → ⊥) → entry_at m₄ n q ≡ entry_at m n q
  entry_kept q h ne =
      ap joined (entry_same m m₄ n q (λ i u v. other_slot i q h ne u (omega arith) ∙ f₁.only i (λ l. omega arith) (omega arith)))

  newest : entry_at m₄ n at ≡ x
  newest = ap joined (entry_same m₃ m₄ n at (λ i u v. co.only i (omega arith)) ∙ en.is) ∙ joined-quad a b c d

  new_flag : later_at m₄ n at ≡ false
  new_flag = ap (λ (z : ℕ). eqb z 1) (co.only (ring n + 5 * at + 4) (omega arith) ∙ en.flag)

  -- ---- of a journal ----

  module _ (seeks : Seeks m j (by_touch n j) (key_at m (ring n) true) (by_touch n j + d % j) (quad a b c d) r)
      (wide : (i : ℕ) → word m i < limb) (words : Words a b c d) (w : Journaled m n) where
    turn : at ≡ word m 5
    turn = slot.is w.turn

    slot_at : (i : ℕ) → slot_of m i ≡ back j at i
    slot_at i = ap (λ (z : ℕ). back j z i) (sym turn)

    slot_first : slot_of m₄ 0 ≡ at
    slot_first = ap (λ (z : ℕ). back z (word m₄ 5) 0) room_same ∙ back_first j at below (word m₄ 5) turn_is

    slot_next : (i : ℕ) → suc i < j → slot_of m₄ (suc i) ≡ slot_of m i
    slot_next i h =
        ap (λ (z : ℕ). back z (word m₄ 5) (suc i)) room_same ∙ back_next j at below (word m₄ 5) turn_is i h ∙ sym (slot_at i)

    slot_below : (i : ℕ) → i < j → slot_of m i < j
    slot_below i h = back_below j (word m 5) w.turn i h

    slot_other : (i : ℕ) → suc i < j → slot_of m i ≡ at → ⊥
    slot_other i h e = back_other j at below i h (sym (slot_at i) ∙ e)

    touched_first : touched_at m₄ n 0 ≡ x
    touched_first = ap (entry_at m₄ n) slot_first ∙ newest

    touched_next : (i : ℕ) → suc i < j → touched_at m₄ n (suc i) ≡ touched_at m n i
    touched_next i h = ap (entry_at m₄ n) (slot_next i h) ∙ entry_kept (slot_of m i) (slot_below i (omega arith)) (slot_other i h)

    journal_is : journal_of m₄ n ≡ take j (x ∷ journal_of m n)
    journal_is = ring_append (touched_at m₄ n) (touched_at m n) x j (word m 4) (word m₄ 4) laid.some_j w.short touched_first touched_next len_is

    -- an entry that is still there after the touch was there before, and is not in the slot that is overwritten
    still : (i : ℕ) → suc i < word m₄ 4 → (suc i < j) × (i < word m 4)
    still i h =
        let s = w.short in
        by_bool (ltb (word m 4) j)
        (λ t. let z : word m₄ 4 ≡ word m 4 + 1 = rw t at len_is in let l = ltb-true (word m 4) j t in (omega arith, omega arith))
        (λ t. let z : word m₄ 4 ≡ word m 4 = rw t at len_is in (omega arith, omega arith))

    length_below : word m₄ 4 ≤ j
    length_below =
        let s = w.short in
        by_bool (ltb (word m 4) j)
        (λ t. let z : word m₄ 4 ≡ word m 4 + 1 = rw t at len_is in let l = ltb-true (word m 4) j t in omega arith)
        (λ t. let z : word m₄ 4 ≡ word m 4 = rw t at len_is in omega arith)

    -- ---- the touch before ----

    visit : Visits m j (by_touch n j) (Last m n) (key_at m (ring n) true) (quad a b c d) r []
    visit = visits_start m j (by_touch n j) (Last m n) (key_at m (ring n) true) (quad a b c d) r laid.some_j w.index seeks

    found : r < j → entry_at m n r ≡ x
    found h = ap joined (visit.here h).1 ∙ joined-quad a b c d

    -- a last touch of the hash is the one that was found
    only_one : (q : ℕ) → q < j → Last m n q → entry_at m n q ≡ x → (r < j) × (q ≡ r)
    only_one q h v e =
        ⊎_elim (λ i. absurd i)
        (λ i. (i.0, last_unique m n q r w v (visit.here i.0).0 (e ∙ sym (found i.0))))
        (visit.complete q h v (seg-joined m (ring n + 5 * q) a b c d wide words e))

    marked : (i : ℕ) → i < word m 4 → later_at m₁ n (slot_of m i) ≡ (eqb (touched_at m n i) x || later_at m n (slot_of m i))
    marked i h = go (ℕ_discrete (slot_of m i) r)
      where
        s<j : slot_of m i < j
        s<j = let s = w.short in slot_below i (omega arith)

        kept : (slot_of m i ≡ r → ⊥) → later_at m₁ n (slot_of m i) ≡ later_at m n (slot_of m i)
        kept ne = let s = s<j in ap (λ (z : ℕ). eqb z 1) (f₁.only (ring n + 5 * slot_of m i + 4) (λ l z. ne (omega arith)) (omega arith))

        go : Dec (slot_of m i ≡ r) → later_at m₁ n (slot_of m i) ≡ (eqb (touched_at m n i) x || later_at m n (slot_of m i))
        go (yes e) =
            let r<j : r < j = omega (arith, s<j) in
            ap (later_at m₁ n) e ∙ f₁.flag r<j ∙ sym (rw (eq-eqb (touched_at m n i) x (ap (entry_at m n) e ∙ found r<j)))
        go (no e) =
            by_bool (later_at m n (slot_of m i))
            (λ t. kept e ∙ t ∙ by_bool (eqb (touched_at m n i) x) (λ u. rw u) (λ u. rw (u, t)))
            (λ t. kept e ∙ by_bool (eqb (touched_at m n i) x)
            (λ u. absurd (e (only_one (slot_of m i) s<j (record { age = i; young = h; here = refl; unflagged = t }) (eqb-true (touched_at m n i) x u)).1))
            (λ u. rw u))

    flags_are : (i : ℕ) → i < word m₄ 4 → later_at m₄ n (slot_of m₄ i) ≡ elem (touched_at m₄ n i) (tab (touched_at m₄ n) i)
    unfolding tab elem
    flags_are zero h = ap (later_at m₄ n) slot_first ∙ new_flag
    flags_are (suc i) h =
        let l = still i h in
        ap (later_at m₄ n) (slot_next i l.0) ∙ later_same (slot_of m i) (slot_below i (omega (arith, l.0))) (slot_other i l.0)
        ∙ marked i l.1 ∙ ap (λ (z : Bool). eqb (touched_at m n i) x || z) (w.flags i l.1)
        ∙ sym (ap (λ (z : ℕ). elem z (tab (touched_at m₄ n) (suc i))) (touched_next i l.0)
        ∙ ap (elem (touched_at m n i)) (tab_cons (touched_at m₄ n) (touched_at m n) x i touched_first (λ q k. touched_next q (omega (arith, l.0)))))

    -- ---- the index ----

    index₁ : Indexed m₁ n j
    index₁ = f₁.index (λ h. (visit.here h).0) w.index

    slots₁ : (i : ℕ) → slot_of m₁ i ≡ slot_of m i
    slots₁ = slot_same m m₁ (low₁ 1 (omega arith)) (low₁ 5 (omega arith))

    slots₂ : (i : ℕ) → slot_of m₂ i ≡ slot_of m i
    slots₂ = slot_same m m₂ (low₂ 1 (omega arith)) (low₂ 5 (omega arith))

    oldest : (k : ℕ) → suc k ≡ j → slot_of m k ≡ at
    oldest k e = slot_at k ∙ back_oldest j at below k e

    index₂ : Indexed m₂ n j
    index₂ = f₂.index old index₁
      where
        last_at : (k : ℕ) → suc k ≡ j → j ≤ word m₁ 4 → later_at m₁ n at ≡ false → Last m₁ n at
        last_at k e l t = record { age = k; young = omega arith; here = slots₁ k ∙ oldest k e; unflagged = t }

        below_j : (k : ℕ) → k ≡ j → (e : ℕ) × (suc e ≡ j)
        below_j zero e = absurd (omega (arith, below))
        below_j (suc e) h = (e, h)

        old : overwritten_at m₁ n j at < j → Last m₁ n (overwritten_at m₁ n j at)
        old =
            overwriting m₁ n j at (λ k e h. absurd (omega arith))
            (λ l t e h. let k = below_j j refl in subst (Last m₁ n) (sym e) (last_at k.0 k.1 l t))

    gone : Last m₂ n at → ⊥
    gone v =
        overwriting m₁ n j at
        (λ k e. ⊎_elim
        (λ l. let y = v.young in let s = low₂ 4 (omega arith) in let t = low₁ 4 (omega arith) in slot_other v.age (omega arith) (sym (slots₂ v.age) ∙ v.here))
        (λ t. no_both (later_at m₁ n at) t (sym (same e) ∙ v.unflagged)) k)
        (λ l t e. no_both (later_at m₂ n at) (ap (later_at m₂ n) (sym e) ∙ f₂.flag (let s = below in omega arith)) v.unflagged)
      where
        same : overwritten_at m₁ n j at ≡ j → later_at m₂ n at ≡ later_at m₁ n at
        same e = let s = below in ap (λ (z : ℕ). eqb z 1) (f₂.only (ring n + 5 * at + 4) (λ l. omega arith) (omega arith))

    index₃ : Keyed m₃ j (by_touch n j) (key_at m₃ (ring n) true) (λ q. Last m₂ n q ⊎ (q ≡ at))
    index₃ = en.index gone index₂

    later₂ : (q : ℕ) → q < j → (q ≡ at → ⊥) → later_at m₄ n q ≡ later_at m₂ n q
    later₂ q h ne = ap (λ (z : ℕ). eqb z 1) (co.only (ring n + 5 * q + 4) (omega arith) ∙ en.only (ring n + 5 * q + 4) (λ u v. ne (omega arith)) (omega arith))

    to : (q : ℕ) → q < j → Last m₂ n q ⊎ (q ≡ at) → Last m₄ n q
    to q h (inl v) =
        let ne : q ≡ at → ⊥ = λ z. gone (subst (Last m₂ n) z v) in
        let y : v.age < word m 4 = let u = v.young in let z = low₂ 4 (omega arith) in omega arith in
        let s : suc v.age < j = let k = w.short in younger v.age (omega arith) (λ z. ne (sym v.here ∙ slots₂ v.age ∙ oldest v.age z)) in
        record {
          age = suc v.age;
          young = by_bool (ltb (word m 4) j)
              (λ t. let z : word m₄ 4 ≡ word m 4 + 1 = rw t at len_is in omega arith)
              (λ t. let z : word m₄ 4 ≡ word m 4 = rw t at len_is in let g = ltb-false (word m 4) j t in omega arith);
          here = slot_next v.age s ∙ sym (slots₂ v.age) ∙ v.here;
          unflagged = later₂ q h ne ∙ v.unflagged;
        }
      where
        younger : (k : ℕ) → k < j → (suc k ≡ j → ⊥) → suc k < j
        younger k l ne = ⊎_elim (λ i. i) (λ i. absurd (ne (omega arith))) (below_or (suc k) j)
    to q h (inr e) =
        record {
          age = 0;
          young = by_bool (ltb (word m 4) j)
              (λ t. let z : word m₄ 4 ≡ word m 4 + 1 = rw t at len_is in omega arith)
              (λ t. let z : word m₄ 4 ≡ word m 4 = rw t at len_is in let g = ltb-false (word m 4) j t in omega arith);
          here = slot_first ∙ sym e;
          unflagged = ap (later_at m₄ n) e ∙ new_flag;
        }

    of : (q : ℕ) → q < j → Last m₄ n q → Last m₂ n q ⊎ (q ≡ at)
    of q h v = go v.age v.young v.here
      where
        go : (i : ℕ) → i < word m₄ 4 → slot_of m₄ i ≡ q → Last m₂ n q ⊎ (q ≡ at)
        go zero y e = inr (sym e ∙ slot_first)
        go (suc i) y e =
            let l = still i y in
            let z : slot_of m i ≡ q = sym (slot_next i l.0) ∙ e in
            inl (record {
              age = i;
              young = let g = low₂ 4 (omega arith) in let k = l.1 in omega arith;
              here = slots₂ i ∙ z;
              unflagged = sym (later₂ q h (λ p. slot_other i l.0 (z ∙ p))) ∙ v.unflagged;
            })

    index₄ : Indexed m₄ n j
    index₄ =
        keyed_frame m₃ m₄ j (by_touch n j) (key_at m₃ (ring n) true) (key_at m₄ (ring n) true) (λ q. Last m₂ n q ⊎ (q ≡ at)) (Last m₄ n)
        (λ q h v. entry_same m₃ m₄ n q (λ i u v. co.only i (omega arith))) index₃ (λ i u v. co.only i (omega arith)) to of

    journaled : Journaled m₄ n
    journaled =
        record {
          turn = omega (arith, turn_below j at below (word m₄ 5) turn_is, room_same);
          short = omega (arith, length_below, room_same);
          flags = flags_are;
          index = subst (λ (z : ℕ). Indexed m₄ n z) (sym room_same) index₄;
        }

  touches : Seeks m j (by_touch n j) (key_at m (ring n) true) (by_touch n j + d % j) (quad a b c d) r → ((i : ℕ) → word m i < limb) → Words a b c d → Touches m m₄ n (join a b c d)
  touches seeks wide words =
      record {
        long = co.long ∙ en.long ∙ f₂.long ∙ f₁.long;
        only = outside;
        version = λ h. let e = low₃ 3 (omega arith) in co.version (λ z. h (sym e ∙ z)) ∙ ap suc e;
        loading = co.loading;
        fresh = co.fresh;
        journaled = journaled seeks wide words;
        journal = journal_is seeks wide words;
      }

-- the same with the room j and the overwritten slot o as they were read
pub touch_done : (m m₁ m₂ m₃ m₄ : List ℕ) (n j at r o a b c d : ℕ) → Laid m n → j ≡ word m 1 → Slot m at
    → Seeks m j (by_touch n j) (key_at m (ring n) true) (by_touch n j + d % j) (quad a b c d) r → Forgets m m₁ n j r
    → o ≡ overwritten_at m₁ n j at → Forgets m₁ m₂ n j o → Enters m₂ m₃ n j at a b c d → Counted m₃ m₄ j at
    → ((i : ℕ) → word m i < limb) → Words a b c d → Touches m m₄ n (join a b c d)
touch_done m m₁ m₂ m₃ m₄ n j at r o a b c d laid e slot seeks f₁ eo f₂ en co =
    touches m m₁ m₂ m₃ m₄ n at r a b c d laid slot (subst (λ (z : ℕ). Forgets m m₁ n z r) e f₁)
    (subst (λ (z : ℕ). Forgets m₁ m₂ n z (overwritten_at m₁ n z at)) e (subst (λ (z : ℕ). Forgets m₁ m₂ n j z) eo f₂))
    (subst (λ (z : ℕ). Enters m₂ m₃ n z at a b c d) e en) (subst (λ (z : ℕ). Counted m₃ m₄ z at) e co)
    (subst (λ (z : ℕ). Seeks m z (by_touch n z) (key_at m (ring n) true) (by_touch n z + d % z) (quad a b c d) r) e seeks)
