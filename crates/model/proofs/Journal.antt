-- What changes since the last sync says after a touch: if it is to be had then, it was to be had before, and holds the hash touched besides.
use Prim.Native.Nat.{ℕ, suc, ◌+◌, ◌-◌, ◌≤◌, min}
use mathlib.Core.Path.{◌≡◌, refl, ◌∙◌}
use mathlib.Core.Bool.{true, false, cond, ◌||◌}
use mathlib.Core.Option.{Option, none, some}
use mathlib.Core.List.{List, [], ◌∷◌, reverse}
use lib.ListN.{length, take, length-take}
use lib.Seq.{take-take}
use native.Mathlib.Omega.{arith}
use lib.Dec.{eqb, ltb}
use borrow.Author.Tests.{eqb-true, eqb-false, eq-eqb, ne_eqb, ltb-false, le-ltb}
use Rattle.model.specs.Lists.{elem, distinct}
use Rattle.model.specs.Holding.{Holdings, touch, changes_since, changes_in}
use Rattle.model.proofs.Tools.{by_bool, no_none, or_right, elem-reverse, elem-distinct}

pub elem_listed : (y : ℕ) (l : List ℕ) → elem y (reverse (distinct l)) ≡ elem y l
elem_listed y l = elem-reverse y (distinct l) ∙ elem-distinct y l

-- at our own point the list is empty
pub changes_here : (h : Holdings) → changes_since h h.generation h.version ≡ some []
unfolding changes_since changes_in
changes_here h = rw (eq-eqb h.generation h.generation refl, le-ltb h.version h.version (omega arith), eq-eqb h.version h.version refl)

-- another generation has none
pub changes_other : (h : Holdings) (g v : ℕ) → (g ≡ h.generation → ⊥) → changes_since h g v ≡ none
unfolding changes_since changes_in
changes_other h g v n = rw (ne_eqb g h.generation n)

module _ (h : Holdings) (x g v : ℕ) (old : g ≡ h.generation → v ≤ h.version) where
  module _ (l : List ℕ) (e : changes_since (touch x h) g v ≡ some l) where
    same_generation : g ≡ h.generation
    unfolding touch
    same_generation = by_bool (eqb g h.generation) (eqb-true g h.generation) (λ i. no_none (changes_since (touch x h) g v) (changes_other (touch x h) g v (eqb-false g h.generation i)) e)

    le : v ≤ h.version
    le = old same_generation

    kept : List ℕ
    kept = take h.journal_room (x ∷ h.journal)

    -- the list of the touched holdings, its tests done
    listed : cond (eqb (length kept) 0 || ltb (v + 1) (suc (suc h.version) - length kept)) none (some (reverse (distinct (take (suc h.version - v) kept)))) ≡ some l
    unfolding changes_since changes_in touch kept
    listed = rw (eq-eqb g h.generation same_generation, le-ltb (suc h.version) v (let i = le in omega arith), ne_eqb v (suc h.version) (λ z. let i : v ≤ h.version = le in let z : v ≡ suc h.version = z in omega arith)) at e

    enough : (eqb (length kept) 0 || ltb (v + 1) (suc (suc h.version) - length kept)) ≡ false
    enough = by_bool (eqb (length kept) 0 || ltb (v + 1) (suc (suc h.version) - length kept)) (λ i. no_none {a = l} none refl (rw i at listed)) (λ i. i)

    fits : suc h.version ≤ v + length kept
    fits = let i : suc (suc h.version) - length kept ≤ v + 1 = ltb-false (v + 1) (suc (suc h.version) - length kept) (or_right (eqb (length kept) 0) (ltb (v + 1) (suc (suc h.version) - length kept)) enough) in omega arith

    kept-length : length kept ≡ min h.journal_room (suc (length h.journal))
    unfolding kept
    kept-length = length-take h.journal_room (x ∷ h.journal)

    list_is : l ≡ reverse (distinct (take (suc h.version - v) kept))
    list_is = let z : ◌≡◌ {A = Option (List ℕ)} (some (reverse (distinct (take (suc h.version - v) kept)))) (some l) = rw enough at listed in cc

    taken : take (suc h.version - v) kept ≡ x ∷ take (h.version - v) h.journal
    unfolding kept
    taken =
        let i : suc h.version - v ≤ h.journal_room = omega (arith, fits, kept-length) in
        let j : suc h.version - v ≡ suc (h.version - v) = omega (arith, le) in
        take-take (suc h.version - v) h.journal_room (x ∷ h.journal) i ∙ (rw j)

    elems : (y : ℕ) → elem y l ≡ (eqb y x || elem y (take (h.version - v) h.journal))
    unfolding elem
    elems y = rw (list_is, elem_listed, taken)

    pub changes_touch : (m : List ℕ) × (changes_since h g v ≡ some m) × ((y : ℕ) → elem y l ≡ (eqb y x || elem y m))
    unfolding changes_since changes_in elem
    changes_touch = by_bool (eqb v h.version) here there
      where
        here : eqb v h.version ≡ true → (m : List ℕ) × (changes_since h g v ≡ some m) × ((y : ℕ) → elem y l ≡ (eqb y x || elem y m))
        here i =
            let z : h.version - v ≡ 0 = omega (arith, eqb-true v h.version i) in
            ([], rw (eq-eqb g h.generation same_generation, le-ltb h.version v le, i), λ y. rw z at (elems y))

        there : eqb v h.version ≡ false → (m : List ℕ) × (changes_since h g v ≡ some m) × ((y : ℕ) → elem y l ≡ (eqb y x || elem y m))
        there i =
            let ne : v ≡ h.version → ⊥ = eqb-false v h.version i in
            let some_left : length h.journal ≡ 0 → ⊥ = λ z. let z : length h.journal ≡ 0 = z in absurd (omega (arith, fits, kept-length, le)) in (
              reverse (distinct (take (h.version - v) h.journal)),
              rw (eq-eqb g h.generation same_generation, le-ltb h.version v le, i, ne_eqb (length h.journal) 0 some_left, le-ltb (v + 1) (suc h.version - length h.journal) (omega (arith, fits, kept-length))),
              λ y. rw elem_listed (elems y),
            )
