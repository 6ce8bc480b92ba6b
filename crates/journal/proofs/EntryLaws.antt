-- Laws of entries: a hash is four words, two last touches of one hash are the same, and what must stay for the journal to stay.
use mathlib.Core.Path.{◌≡◌, refl, sym, ap, ◌∙◌, subst}
use mathlib.Core.Bool.{true}
use mathlib.Core.Logic.{◌⊎◌, inl, inr}
use mathlib.Core.List.{List}
use Prim.Native.Nat.{ℕ, ◌+◌, ◌*◌, ◌≤◌, ◌<◌}
use native.Mathlib.Omega.{arith}
use lib.Dec.{eqb}
use Rattle.model.specs.Lists.{elem}
use Rattle.model.proofs.Tools.{no_both}
use Rattle.hash.specs.Hashes.{limb, join}
use Rattle.hash.proofs.HashLaws.{Words}
use Rattle.block.specs.Words.{quad}
use Rattle.memory.specs.Words.{word, seg}
use Rattle.memory.specs.Layout.{ring, by_touch}
use Rattle.memory.proofs.HashWords.{seg_hash}
use Rattle.memory.proofs.WordLaws.{seg_same}
use Rattle.index.specs.Keys.{key_at}
use Rattle.index.proofs.ListFacts.{below_or}
use Rattle.index.proofs.IndexLaws.{keyed_frame}
use Rattle.journal.specs.Journal.{tab, joined, entry_at, later_at, slot_of, touched_at, journal_of, Last, Indexed, Journaled}
use Rattle.journal.specs.Changes.{Aged}
use Rattle.journal.proofs.TabLaws.{tab_same, tab-elem}
use Rattle.journal.proofs.RingLaws.{back_below}

-- ---- a hash is four words ----

pub joined-quad : (a b c d : ℕ) → joined (quad a b c d) ≡ join a b c d
unfolding joined
joined-quad a b c d = refl

-- four words have the number of another four only if they are these
pub seg-joined : (m : List ℕ) (at a b c d : ℕ) → ((i : ℕ) → word m i < limb) → Words a b c d → joined (seg m at 4) ≡ join a b c d → seg m at 4 ≡ quad a b c d
unfolding joined
seg-joined m at a b c d wide w e = seg_hash m at a b c d wide w e

-- ---- last touches ----

-- of two ages with one hash the greater is flagged
older_flagged : (m : List ℕ) (n i k : ℕ) → Journaled m n → k < word m 4 → i < k → touched_at m n i ≡ touched_at m n k → later_at m n (slot_of m k) ≡ true
older_flagged m n i k w l h e =
    w.flags k l ∙ ap (λ (z : ℕ). elem z (tab (touched_at m n) k)) (sym e) ∙ tab-elem (touched_at m n) i k h

pub last_unique : (m : List ℕ) (n p q : ℕ) → Journaled m n → Last m n p → Last m n q → entry_at m n p ≡ entry_at m n q → p ≡ q
last_unique m n p q w x y e = go (below_or x.age y.age)
  where
    hash_at : (r : ℕ) (l : Last m n r) → touched_at m n l.age ≡ entry_at m n r
    hash_at r l = ap (entry_at m n) l.here

    same : touched_at m n x.age ≡ touched_at m n y.age
    same = hash_at p x ∙ e ∙ sym (hash_at q y)

    never : (r : ℕ) (l : Last m n r) → later_at m n (slot_of m l.age) ≡ true → p ≡ q
    never r l t = no_both (later_at m n r) (ap (later_at m n) (sym l.here) ∙ t) l.unflagged

    late : (y.age < x.age) ⊎ (x.age ≤ y.age) → y.age ≤ x.age → p ≡ q
    late (inl h) i = never p x (older_flagged m n y.age x.age w x.young h (sym same))
    late (inr h) i = let z : x.age ≡ y.age = omega arith in sym x.here ∙ ap (slot_of m) z ∙ y.here

    go : (x.age < y.age) ⊎ (y.age ≤ x.age) → p ≡ q
    go (inl h) = never q y (older_flagged m n x.age y.age w y.young h same)
    go (inr h) = late (below_or y.age x.age) h

-- ---- what must stay ----

pub slot_same : (m m' : List ℕ) → word m' 1 ≡ word m 1 → word m' 5 ≡ word m 5 → (i : ℕ) → slot_of m' i ≡ slot_of m i
slot_same m m' e₁ e₅ i = rw (e₁, e₅)

pub entry_same : (m m' : List ℕ) (n e : ℕ) → ((a : ℕ) → ring n + 5 * e ≤ a → a < ring n + 5 * e + 4 → word m' a ≡ word m a) → seg m' (ring n + 5 * e) 4 ≡ seg m (ring n + 5 * e) 4
entry_same m m' n e h = seg_same m m' (ring n + 5 * e) 4 (λ i l. h (ring n + 5 * e + i) (omega arith) (omega arith))

module _ (m m' : List ℕ) (n : ℕ) (e₁ : word m' 1 ≡ word m 1) (e₄ : word m' 4 ≡ word m 4) (e₅ : word m' 5 ≡ word m 5)
    (same : (a : ℕ) → ring n ≤ a → a < by_touch n (word m 1) + 3 * word m 1 → word m' a ≡ word m a) where
  entry_kept : (e : ℕ) → e < word m 1 → entry_at m' n e ≡ entry_at m n e
  entry_kept e l = ap joined (entry_same m m' n e (λ a x y. same a (omega arith) (omega arith)))

  flag_kept : (e : ℕ) → e < word m 1 → later_at m' n e ≡ later_at m n e
  flag_kept e l = ap (λ (z : ℕ). eqb z 1) (same (ring n + 5 * e + 4) (omega arith) (omega arith))

  module _ (w : Journaled m n) where
    slot_below : (i : ℕ) → i < word m 4 → slot_of m i < word m 1
    slot_below i l = let s = w.short in back_below (word m 1) (word m 5) w.turn i (omega arith)

    pub touched_kept : (i : ℕ) → i < word m 4 → touched_at m' n i ≡ touched_at m n i
    touched_kept i l = ap (entry_at m' n) (slot_same m m' e₁ e₅ i) ∙ entry_kept (slot_of m i) (slot_below i l)

    -- the journal reads the same where its words stayed: three of the head, the slots, and the index
    pub journal_kept : journal_of m' n ≡ journal_of m n
    journal_kept = ap (tab (touched_at m' n)) e₄ ∙ tab_same (touched_at m' n) (touched_at m n) (word m 4) touched_kept

    pub journaled_kept : Journaled m' n
    journaled_kept =
        record {
          turn = let t = w.turn in omega arith;
          short = let t = w.short in omega arith;
          flags = λ i l.
              let k : i < word m 4 = omega arith in
              ap (later_at m' n) (slot_same m m' e₁ e₅ i) ∙ flag_kept (slot_of m i) (slot_below i k) ∙ w.flags i k
              ∙ sym (ap (λ (z : ℕ). elem z (tab (touched_at m' n) i)) (touched_kept i k)
              ∙ ap (elem (touched_at m n i)) (tab_same (touched_at m' n) (touched_at m n) i (λ q h. touched_kept q (omega arith))));
          index =
              subst (λ (z : ℕ). Indexed m' n z) (sym e₁)
              (keyed_frame m m' (word m 1) (by_touch n (word m 1)) (key_at m (ring n) true) (key_at m' (ring n) true) (Last m n) (Last m' n)
              (λ q l u. entry_same m m' n q (λ a x y. same a (omega arith) (omega arith))) w.index
              (λ a x y. same a (omega arith) y)
              (λ q l u. record { age = u.age; young = let y = u.young in omega arith; here = slot_same m m' e₁ e₅ u.age ∙ u.here; unflagged = flag_kept q l ∙ u.unflagged })
              (λ q l u. record { age = u.age; young = let y = u.young in omega arith; here = sym (slot_same m m' e₁ e₅ u.age) ∙ u.here; unflagged = sym (flag_kept q l) ∙ u.unflagged }));
        }

-- ---- the entry of an age ----

module _ (m : List ℕ) (n i r : ℕ) (g : Aged m i r) (w : Journaled m n) (l : i < word m 4) where
  aged : r ≡ slot_of m i
  aged = let s = w.short in g.is w.turn (omega arith)

  pub aged_hash : (a b c d : ℕ) → seg m (ring n + 5 * r) 4 ≡ quad a b c d → join a b c d ≡ touched_at m n i
  aged_hash a b c d e = sym (joined-quad a b c d) ∙ ap joined (sym e) ∙ ap (entry_at m n) aged
