-- Laws of changes: when they are to be had and what they are, as they are counted and written, and which entries make them.
use mathlib.Core.Path.{◌≡◌, refl, sym, ap, ◌∙◌, subst}
use mathlib.Core.Bool.{Bool, true, false, not, ◌||◌}
use mathlib.Core.List.{List, [], ◌∷◌, ◌++◌, append_assoc, append-nil, reverse}
use mathlib.Core.Option.{Option, none, some}
use Prim.Native.Nat.{ℕ, suc, ◌+◌, ◌*◌, ◌-◌, ◌≤◌, ◌<◌}
use native.Mathlib.Numerals.{add-one}
use native.Mathlib.Omega.{arith}
use lib.ListN.{length, take, length-append}
use lib.Seq.{sets}
use lib.Dec.{eqb, ltb}
use borrow.Author.Tests.{eqb-true, eqb-false, eq-eqb, ne_eqb, ltb-true, ltb-false, lt-ltb, le-ltb, not-true, not-false}
use Rattle.amount.specs.Choose.{◌if◌else◌}
use Rattle.model.specs.Lists.{elem, distinct}
use Rattle.model.specs.Holding.{changes_in}
use Rattle.model.proofs.Tools.{by_bool, no_none}
use Rattle.hash.specs.Digits.{bytes_of}
use Rattle.memory.specs.Words.{word}
use Rattle.journal.specs.Journal.{tab, touched_at, later_at, slot_of, last_at, journal_of, Journaled}
use Rattle.journal.specs.Changes.{Later, changes_of, had_of, lasts, bytes_of_all, Writes}
use Rattle.journal.specs.declared.Had.{Had}
use Rattle.journal.specs.declared.Had.TheVariants.{None, Count}
use Rattle.journal.proofs.TabLaws.{tab-length, take-tab}
use Rattle.journal.proofs.ListLaws.{lasts-distinct, lasts_none, lasts_old, lasts_new, lasts-elem, elem-lasts, put_more}

-- ---- when they are to be had ----

-- the model's tests come to three: another generation, a version above ours, more entries than there are
module _ (generation version g v : ℕ) (journal : List ℕ) where
  abbrev Tested : Type 0
  Tested =
      changes_in generation version journal g v
      ≡ (none if not (eqb g generation) || ltb version v || ltb (length journal) (version - v) else some (reverse (distinct (take (version - v) journal))))

  here : eqb g generation ≡ true → ltb version v ≡ false → eqb v version ≡ true → Tested
  unfolding changes_in distinct
  here e i h =
      let z : version - v ≡ 0 = omega (arith, eqb-true v version h) in
      rw (e, i, h, z, le-ltb (length journal) 0 (omega arith))

  there : eqb g generation ≡ true → ltb version v ≡ false → eqb v version ≡ false → Tested
  unfolding changes_in
  there e i h =
      let ne : v ≡ version → ⊥ = eqb-false v version h in
      let le : v ≤ version = ltb-false version v i in
      by_bool (ltb (length journal) (version - v))
      (λ t. let k = ltb-true (length journal) (version - v) t in
      by_bool (eqb (length journal) 0) (λ u. rw (e, i, h, t, u)) (λ u. rw (e, i, h, t, u, lt-ltb (v + 1) (suc version - length journal) (omega arith))))
      (λ t. let k = ltb-false (length journal) (version - v) t in
      rw (e, i, h, t, ne_eqb (length journal) 0 (λ z. ne (omega arith)), le-ltb (v + 1) (suc version - length journal) (omega arith)))

  tested : Tested
  unfolding changes_in
  tested = by_bool (eqb g generation) (λ e. by_bool (ltb version v) (λ i. rw (e, i)) (λ i. by_bool (eqb v version) (here e i) (there e i))) (λ e. rw e)

-- .. and of a memory's journal, what is to be had are the last touches among the entries that are later than v
pub changes_are : (m : List ℕ) (n g v : ℕ)
    → changes_of m n g v ≡ (none if not (eqb g (word m 2)) || ltb (word m 3) v || ltb (word m 4) (word m 3 - v) else some (lasts (touched_at m n) (word m 3 - v)))
changes_are m n g v =
    tested (word m 2) (word m 3) g v (journal_of m n) ∙ rw (tab-length (touched_at m n) (word m 4)) (go (not (eqb g (word m 2)) || ltb (word m 3) v) (ltb (word m 4) (word m 3 - v)) refl)
  where
    go : (s t : Bool) → ltb (word m 4) (word m 3 - v) ≡ t
        → (none if s || t else some (reverse (distinct (take (word m 3 - v) (journal_of m n))))) ≡ (none if s || t else some (lasts (touched_at m n) (word m 3 - v)))
    go true t e = refl
    go false true e = refl
    go false false e =
        ap some (rw (take-tab (touched_at m n) (word m 3 - v) (word m 4) (ltb-false (word m 4) (word m 3 - v) e)) (lasts-distinct (touched_at m n) (word m 3 - v)))

-- what there is to be had, once there is
pub record Listed (m : List ℕ) (n v : ℕ) (l : List ℕ) : Type 0 where
  pub old : v ≤ word m 3
  pub few : word m 3 - v ≤ word m 4
  pub is : l ≡ lasts (touched_at m n) (word m 3 - v)

pub changes_listed : (m : List ℕ) (n g v : ℕ) (l : List ℕ) → changes_of m n g v ≡ some l → Listed m n v l
changes_listed m n g v l e = go (not (eqb g (word m 2))) (ltb (word m 3) v) (ltb (word m 4) (word m 3 - v)) refl refl (sym (changes_are m n g v) ∙ e)
  where
    go : (p q t : Bool) → ltb (word m 3) v ≡ q → ltb (word m 4) (word m 3 - v) ≡ t
        → (none if p || q || t else some (lasts (touched_at m n) (word m 3 - v))) ≡ some l → Listed m n v l
    go true q t a b e = no_none none refl e
    go false true t a b e = no_none none refl e
    go false false true a b e = no_none none refl e
    go false false false a b e = record { old = ltb-false (word m 3) v a; few = ltb-false (word m 4) (word m 3 - v) b; is = cc }

pub later_is : (m : List ℕ) (n v k : ℕ) {l : List ℕ} → Later m v k → Journaled m n → Listed m n v l → (k ≡ word m 3 - v) × (k ≤ word m 4) × (l ≡ lasts (touched_at m n) k)
later_is m n v k {l} r w d =
    let e : k ≡ word m 3 - v = let s = w.short in let f = d.few in r.is d.old (omega arith) in
    (e, omega (arith, d.few), d.is ∙ ap (lasts (touched_at m n)) (sym e))

-- ---- the entries that make them ----

module _ (m : List ℕ) (n i : ℕ) (w : Journaled m n) (l : i < word m 4) where
  flag_is : (t : Bool) → last_at m n i ≡ not t → elem (touched_at m n i) (tab (touched_at m n) i) ≡ t
  flag_is true e = sym (w.flags i l) ∙ not-false (later_at m n (slot_of m i)) e
  flag_is false e = sym (w.flags i l) ∙ not-true (later_at m n (slot_of m i)) e

  pub last_more : last_at m n i ≡ true → lasts (touched_at m n) (suc i) ≡ touched_at m n i ∷ lasts (touched_at m n) i
  last_more e = lasts_new (touched_at m n) i (flag_is false e)

  pub last_not : last_at m n i ≡ false → lasts (touched_at m n) (suc i) ≡ lasts (touched_at m n) i
  last_not e = lasts_old (touched_at m n) i (flag_is true e)

-- a hash is among the changes exactly if it is the last touch of an entry that is later than v
module _ (m : List ℕ) (n g v : ℕ) (l : List ℕ) (w : Journaled m n) (e : changes_of m n g v ≡ some l) where
  pub changed_some : (x : ℕ) → elem x l ≡ true → (i : ℕ) × (i < word m 3 - v) × (last_at m n i ≡ true) × (touched_at m n i ≡ x)
  changed_some x h =
      let d = changes_listed m n g v l e in
      let f = d.few in
      let r = lasts-elem (touched_at m n) x (word m 3 - v) (ap (elem x) (sym d.is) ∙ h) in
      (r.0, r.1, ap not (w.flags r.0 (let z = r.1 in omega arith) ∙ r.2), r.3)

  pub some_changed : (i : ℕ) → i < word m 3 - v → last_at m n i ≡ true → elem (touched_at m n i) l ≡ true
  some_changed i h t =
      let d = changes_listed m n g v l e in
      let f = d.few in
      ap (elem (touched_at m n i)) d.is ∙ elem-lasts (touched_at m n) i (word m 3 - v) h (flag_is m n i w (omega arith) false t)

-- ---- counting ----

pub count_more : (m : List ℕ) (n i r : ℕ) → Journaled m n → i < word m 4 → last_at m n i ≡ true → r ≡ length (lasts (touched_at m n) i) → r + 1 ≡ length (lasts (touched_at m n) (i + 1))
count_more m n i r w l t e = rw (add-one i, last_more m n i w l t) (omega arith)

pub count_same : (m : List ℕ) (n i r : ℕ) → Journaled m n → i < word m 4 → last_at m n i ≡ false → r ≡ length (lasts (touched_at m n) i) → r ≡ length (lasts (touched_at m n) (i + 1))
count_same m n i r w l t e = rw (add-one i, last_not m n i w l t) e

-- none to be had, by each of the tests
module _ (m : List ℕ) (n g v : ℕ) where
  had_none : changes_of m n g v ≡ none → None ≡ had_of (changes_of m n g v)
  had_none e = sym (ap had_of e)

  pub had_other : (g ≡ word m 2 → ⊥) → None ≡ had_of (changes_of m n g v)
  had_other h = had_none (changes_are m n g v ∙ rw (ne_eqb g (word m 2) h))

  module _ (same : g ≡ word m 2) where
    pub had_above : word m 3 < v → None ≡ had_of (changes_of m n g v)
    had_above h = had_none (changes_are m n g v ∙ rw (eq-eqb g (word m 2) same, lt-ltb (word m 3) v h))

    module _ (old : v ≤ word m 3) where
      pub had_lost : word m 4 < word m 3 - v → None ≡ had_of (changes_of m n g v)
      had_lost h = had_none (changes_are m n g v ∙ rw (eq-eqb g (word m 2) same, le-ltb (word m 3) v old, lt-ltb (word m 4) (word m 3 - v) h))

      pub had_count : word m 3 - v ≤ word m 4 → (k r : ℕ) → Later m v k → (Journaled m n → k ≤ word m 4 → r ≡ length (lasts (touched_at m n) k))
          → Journaled m n → Count r ≡ had_of (changes_of m n g v)
      had_count h k r s c w =
          let is : changes_of m n g v ≡ some (lasts (touched_at m n) (word m 3 - v)) =
          changes_are m n g v ∙ rw (eq-eqb g (word m 2) same, le-ltb (word m 3) v old, le-ltb (word m 4) (word m 3 - v) h) in
          let q = later_is m n v k s w (record { old = old; few = h; is = refl }) in
          ap Count (c w q.1 ∙ ap length (sym q.2)) ∙ sym (ap had_of is)

-- what an answer tells of the changes
pub had_nothing : (o : Option (List ℕ)) → None ≡ had_of o → o ≡ none
had_nothing none e = refl
had_nothing (some l) e = let z : ◌≡◌ {A = ℕ} 0 1 = cc in absurd (omega arith)

pub had_some : (o : Option (List ℕ)) (k : ℕ) → Count k ≡ had_of o → (l : List ℕ) × (o ≡ some l) × (k ≡ length l)
had_some none k e = let z : ◌≡◌ {A = ℕ} 0 1 = cc in absurd (omega arith)
had_some (some l) k e = (l, refl, cc)

-- ---- writing ----

-- the last touches of the k newest entries but the i newest stand in the list, which was `list`
pub record Written (f : ℕ → ℕ) (k i at : ℕ) (list list' : List ℕ) : Type 0 where
  pub done : List ℕ
  pub whole : done ++ lasts f i ≡ lasts f k
  pub place : at ≡ 32 * length done
  pub is : list' ≡ sets list 0 (bytes_of_all done)

pub written_start : (f : ℕ → ℕ) (k : ℕ) (list : List ℕ) → Written f k k 0 list list
unfolding bytes_of_all
written_start f k list = record { done = []; whole = refl; place = refl; is = refl }

module _ (m : List ℕ) (n k i at : ℕ) (list list₁ : List ℕ) (w : Journaled m n) (l : i < word m 4) (r : Written (touched_at m n) k (suc i) at list list₁) where
  pub written_same : last_at m n i ≡ false → Written (touched_at m n) k i at list list₁
  written_same t = record { done = r.done; whole = ap (λ (z : List ℕ). r.done ++ z) (sym (last_not m n i w l t)) ∙ r.whole; place = r.place; is = r.is }

  whole_more : last_at m n i ≡ true → (r.done ++ (touched_at m n i ∷ [])) ++ lasts (touched_at m n) i ≡ lasts (touched_at m n) k
  whole_more t = append_assoc r.done (touched_at m n i ∷ []) (lasts (touched_at m n) i) ∙ ap (λ (z : List ℕ). r.done ++ z) (sym (last_more m n i w l t)) ∙ r.whole

  pub written_more : (list₂ : List ℕ) (x : ℕ) → last_at m n i ≡ true → x ≡ touched_at m n i → list₂ ≡ sets list₁ at (bytes_of x) → Written (touched_at m n) k i (at + 32) list list₂
  written_more list₂ x t e s =
      record {
        done = r.done ++ (touched_at m n i ∷ []);
        whole = whole_more t;
        place = let p = r.place in omega (arith, length-append r.done (touched_at m n i ∷ []));
        is = s ∙ rw (e, r.is, r.place) (put_more list r.done (touched_at m n i));
      }

  -- a list with room for all has room for this one
  pub written_room : last_at m n i ≡ true → 32 * length (lasts (touched_at m n) k) ≤ length list → at + 32 ≤ length list
  written_room t h =
      let p = r.place in
      omega (arith, ap length (sym (whole_more t)) ∙ length-append (r.done ++ (touched_at m n i ∷ [])) (lasts (touched_at m n) i), length-append r.done (touched_at m n i ∷ []))

pub written_done : (f : ℕ → ℕ) (k at : ℕ) (list list' : List ℕ) → Written f k 0 at list list' → list' ≡ sets list 0 (bytes_of_all (lasts f k))
written_done f k at list list' r =
    r.is ∙ ap (λ (z : List ℕ). sets list 0 (bytes_of_all z)) (sym (append-nil r.done) ∙ ap (λ (z : List ℕ). r.done ++ z) (sym (lasts_none f)) ∙ r.whole)

-- what the loop keeps: k entries to go through, i of them left, at the byte `at` of the list
pub record Writing (m : List ℕ) (n k i at : ℕ) (list list₁ : List ℕ) : Type 0 where
  pub few : i ≤ k
  pub within : at ≤ length list₁
  pub long : length list₁ ≡ length list
  pub part : Journaled m n → k ≤ word m 4 → Written (touched_at m n) k i at list list₁

pub writing_start : (m : List ℕ) (n k : ℕ) (list : List ℕ) → Writing m n k k 0 list list
writing_start m n k list = record { few = omega arith; within = omega arith; long = refl; part = λ w h. written_start (touched_at m n) k list }

module _ (m : List ℕ) (n k i at : ℕ) (list list₁ : List ℕ) (t : Bool) (r : Writing m n k i at list list₁) (some_left : 0 < i)
    (tells : Journaled m n → i - 1 < word m 4 → t ≡ last_at m n (i - 1)) where
  stepped : Journaled m n → k ≤ word m 4 → Written (touched_at m n) k (suc (i - 1)) at list list₁
  stepped w h = subst (λ (z : ℕ). Written (touched_at m n) k z at list list₁) (omega arith) (r.part w h)

  inside : k ≤ word m 4 → i - 1 < word m 4
  inside h = let f = r.few in omega arith

  told : (b : Bool) → t ≡ b → Journaled m n → k ≤ word m 4 → last_at m n (i - 1) ≡ b
  told b e w h = sym (tells w (inside h)) ∙ e

  pub writing_same : t ≡ false → Writing m n k (i - 1) at list list₁
  writing_same e =
      record {
        few = let f = r.few in omega arith;
        within = r.within;
        long = r.long;
        part = λ w h. written_same m n k (i - 1) at list list₁ w (inside h) (stepped w h) (told false e w h);
      }

  pub writing_more : (list₂ : List ℕ) (x : ℕ) → t ≡ true → at + 32 ≤ length list₁ → length list₂ ≡ length list₁
      → (Journaled m n → i - 1 < word m 4 → x ≡ touched_at m n (i - 1)) → list₂ ≡ sets list₁ at (bytes_of x) → Writing m n k (i - 1) (at + 32) list list₂
  writing_more list₂ x e fits same is s =
      record {
        few = let f = r.few in omega arith;
        within = omega arith;
        long = same ∙ r.long;
        part = λ w h. written_more m n k (i - 1) at list list₁ w (inside h) (stepped w h) list₂ x (told true e w h) (is w (inside h)) s;
      }

  -- a list that ends here had no room for all
  pub writing_short : (v : ℕ) → Later m v k → t ≡ true → length list₁ - at < 32 → Writes m n v list list₁
  writing_short v s e h =
      record {
        long = r.long;
        is = λ w g l c room.
            let q = later_is m n v k s w (changes_listed m n g v l c) in
            let z : 32 * length (lasts (touched_at m n) k) ≤ length list = rw q.2 at room in
            let y : at + 32 ≤ length list = written_room m n k (i - 1) at list list₁ w (inside q.1) (stepped w q.1) (told true e w q.1) z in
            absurd (omega (arith, r.long));
      }

pub writing_done : (m : List ℕ) (n v k i at : ℕ) (list list₁ : List ℕ) → Later m v k → Writing m n k i at list list₁ → i ≤ 0 → Writes m n v list list₁
writing_done m n v k i at list list₁ s r h =
    record {
      long = r.long;
      is = λ w g l c room.
          let q = later_is m n v k s w (changes_listed m n g v l c) in
          let z : i ≡ 0 = omega arith in
          written_done (touched_at m n) k at list list₁ (subst (λ (y : ℕ). Written (touched_at m n) k y at list list₁) z (r.part w q.1))
          ∙ ap (λ (y : List ℕ). sets list 0 (bytes_of_all y)) (sym q.2);
    }

-- ---- what an answer tells ----

abbrev size : Had → ℕ
size None = 0
size (Count k) = suc k

-- the list that k hashes were counted of
pub record HadList (o : Option (List ℕ)) (k : ℕ) : Type 0 where
  pub list : List ℕ
  pub is : o ≡ some list
  pub long : k ≡ length list

pub counted_list : (o : Option (List ℕ)) (k : ℕ) → Count k ≡ had_of o → HadList o k
counted_list none k e = let z : suc k ≡ 0 = ap size e in absurd (omega arith)
counted_list (some l) k e = let z : suc k ≡ suc (length l) = ap size e in record { list = l; is = refl; long = omega arith }

pub nothing_had : (o : Option (List ℕ)) → None ≡ had_of o → o ≡ none
nothing_had none e = refl
nothing_had (some l) e = let z : 0 ≡ suc (length l) = ap size e in absurd (omega arith)
