-- Laws of the steps of a touch, and of an emptying: from stores and the index's functions to the records of `Steps`.
use mathlib.Core.Path.{◌≡◌, refl, sym, ap, ◌∙◌, subst}
use mathlib.Core.Bool.{true}
use mathlib.Core.Logic.{◌⊎◌, inl, inr}
use mathlib.Core.List.{List, []}
use Prim.Native.Nat.{ℕ, ◌+◌, ◌*◌, ◌≤◌, ◌<◌}
use native.Mathlib.Omega.{arith}
use lib.Dec.{eqb}
use Rattle.model.proofs.Tools.{no_both}
use Rattle.memory.specs.Words.{word, Stored, Four}
use Rattle.memory.specs.Layout.{ring, by_touch, Laid}
use Rattle.memory.proofs.WordLaws.{stored_same, stored_other, stored_long}
use Rattle.index.specs.Keys.{key_at, bucket_of}
use Rattle.index.specs.Index.{Keyed}
use Rattle.index.specs.Writes.{Cleared, Linked, Unlinked}
use Rattle.index.proofs.IndexLaws.{keyed_frame, keyed_insert, keyed_remove, index_clear}
use Rattle.journal.specs.Journal.{tab, later_at, slot_of, touched_at, Last, Indexed}
use Rattle.journal.specs.Steps.{Roomy, Forgets, Enters}
use Rattle.journal.specs.Touches.{Clears}
use Rattle.journal.proofs.EntryLaws.{slot_same, entry_same}

-- ---- a slot is forgotten ----

module _ (m m₁ m' : List ℕ) (n j e : ℕ) (l : e < j) (fits : Roomy m n j)
    (s : Stored m m₁ (ring n + 5 * e + 4) 1) (u : Unlinked m₁ m' j (by_touch n j) e) where
  off : (i : ℕ) → (i ≡ ring n + 5 * e + 4 → ⊥) → (by_touch n j ≤ i → i < by_touch n j + 3 * j → ⊥) → word m' i ≡ word m i
  off i x y = u.only i y ∙ stored_other s i x

  flagged : later_at m' n e ≡ true
  flagged =
      let t = fits.fits in
      ap (λ (z : ℕ). eqb z 1) (u.only (ring n + 5 * e + 4) (omega arith) ∙ stored_same s (omega arith))

  unchanged : (q : ℕ) → q < j → (q ≡ e → ⊥) → later_at m' n q ≡ later_at m n q
  unchanged q h ne = ap (λ (z : ℕ). eqb z 1) (off (ring n + 5 * q + 4) (λ z. ne (omega arith)) (omega arith))

  slots : (i : ℕ) → slot_of m' i ≡ slot_of m i
  slots = slot_same m m' (off 1 (omega arith) (omega arith)) (off 5 (omega arith) (omega arith))

  length_same : word m' 4 ≡ word m 4
  length_same = off 4 (omega arith) (omega arith)

  stays : (q : ℕ) → q < j → Last m n q → (q ≡ e → ⊥) → Last m' n q
  stays q h v ne =
      record { age = v.age; young = let y = v.young in let z = length_same in omega arith; here = slots v.age ∙ v.here; unflagged = unchanged q h ne ∙ v.unflagged }

  stayed : (q : ℕ) → q < j → Last m' n q → Last m n q × (q ≡ e → ⊥)
  stayed q h v =
      let ne : q ≡ e → ⊥ = λ z. no_both (later_at m' n q) (ap (later_at m' n) z ∙ flagged) v.unflagged in (
        record { age = v.age; young = let y = v.young in let z = length_same in omega arith; here = sym (slots v.age) ∙ v.here; unflagged = sym (unchanged q h ne) ∙ v.unflagged },
        ne,
      )

  flagged_only : Indexed m n j → Keyed m₁ j (by_touch n j) (key_at m₁ (ring n) true) (Last m n)
  flagged_only x =
      keyed_frame m m₁ j (by_touch n j) (key_at m (ring n) true) (key_at m₁ (ring n) true) (Last m n) (Last m n)
      (λ q h v. entry_same m m₁ n q (λ a y z. stored_other s a (omega arith))) x
      (λ a y z. stored_other s a (omega arith)) (λ q h v. v) (λ q h v. v)

  pub forget_done : Forgets m m' n j e
  forget_done =
      record {
        long = u.long ∙ stored_long s;
        flag = λ h. flagged;
        only = λ i x y. off i (x l) y;
        index = λ v x.
            keyed_remove m₁ m' j (by_touch n j) (key_at m₁ (ring n) true) (key_at m' (ring n) true) (Last m n) (Last m' n)
            (λ q h k. entry_same m₁ m' n q (λ a y z. u.only a (omega arith))) (flagged_only x) e l (v l) u stays stayed;
      }

-- ---- an entry is put into a slot ----

module _ (m m₁ m₂ m' : List ℕ) (n j at a b c d : ℕ) (l : at < j) (fits : Roomy m n j)
    (f : Four m m₁ (ring n + 5 * at) a b c d) (s : Stored m₁ m₂ (ring n + 5 * at + 4) 0)
    (k : Linked m₂ m' j (by_touch n j) (bucket_of j (key_at m₂ (ring n) true at)) at) where
  outside : (i : ℕ) → (ring n + 5 * at ≤ i → i < ring n + 5 * at + 5 → ⊥) → word m₂ i ≡ word m i
  outside i x = stored_other s i (λ z. x (omega arith) (omega arith)) ∙ f.only i (λ y z. x y (omega arith))

  key_same : (q : ℕ) → q < j → key_at m' (ring n) true q ≡ key_at m₂ (ring n) true q
  key_same q h = entry_same m₂ m' n q (λ i x y. k.only i (omega arith))

  written : (Last m n at → ⊥) → Indexed m n j → Keyed m₂ j (by_touch n j) (key_at m₂ (ring n) true) (Last m n)
  written new x =
      keyed_frame m m₂ j (by_touch n j) (key_at m (ring n) true) (key_at m₂ (ring n) true) (Last m n) (Last m n)
      (λ q h v. let ne : q ≡ at → ⊥ = λ z. new (subst (Last m n) z v) in entry_same m m₂ n q (λ i y z. outside i (λ y' z'. ne (omega arith)))) x
      (λ i y z. outside i (omega arith)) (λ q h v. v) (λ q h v. v)

  pub enter_done : Enters m m' n j at a b c d
  enter_done =
      record {
        long = k.long ∙ stored_long s ∙ f.long;
        is = key_same at l ∙ entry_same m₁ m₂ n at (λ i x y. stored_other s i (omega arith)) ∙ f.is;
        flag = let t = fits.fits in let g = f.long in k.only (ring n + 5 * at + 4) (omega arith) ∙ stored_same s (omega arith);
        only = λ i x y. k.only i y ∙ outside i x;
        index = λ new x.
            keyed_insert m₂ m' j (by_touch n j) (key_at m₂ (ring n) true) (key_at m' (ring n) true) (Last m n) (λ q. Last m n q ⊎ (q ≡ at))
            (λ q h v. key_same q h) (written new x) at l (key_same at l) new k (λ q h v. inl v) (inr refl) (λ q h v. v);
      }

-- ---- the journal is emptied ----

module _ (m m₁ m₂ m' : List ℕ) (n : ℕ) (laid : Laid m n) (s₁ : Stored m m₁ 4 0) (s₂ : Stored m₁ m₂ 5 0)
    (k : Cleared m₂ m' (word m 1) (by_touch n (word m 1))) where
  clear_only : (i : ℕ) → (4 ≤ i → i < 6 → ⊥) → (by_touch n (word m 1) ≤ i → i < by_touch n (word m 1) + 3 * word m 1 → ⊥) → word m' i ≡ word m i
  clear_only i x y = k.only i y ∙ stored_other s₂ i (λ z. x (omega arith) (omega arith)) ∙ stored_other s₁ i (λ z. x (omega arith) (omega arith))

  clear_length : word m' 4 ≡ 0
  clear_length = let f = laid.fits in k.only 4 (omega arith) ∙ stored_other s₂ 4 (omega arith) ∙ stored_same s₁ (omega arith)

  clear_turn : word m' 5 ≡ 0
  clear_turn = let f = laid.fits in let g = stored_long s₁ in k.only 5 (omega arith) ∙ stored_same s₂ (omega arith)

  room_same : word m' 1 ≡ word m 1
  room_same = clear_only 1 (omega arith) (omega arith)

  nothing : (f : ℕ → ℕ) → tab f 0 ≡ []
  unfolding tab
  nothing f = refl

  clears : Clears m m' n
  clears =
      record {
        long = k.long ∙ stored_long s₂ ∙ stored_long s₁;
        only = clear_only;
        journaled = record {
          turn = omega (arith, clear_turn, room_same, laid.some_j);
          short = omega (arith, clear_length);
          flags = λ i h. absurd (omega (arith, clear_length));
          index = subst (λ (z : ℕ). Indexed m' n z) (sym room_same)
              (index_clear (λ q. bucket_of (word m 1) (key_at m' (ring n) true q)) (Last m' n) k (λ q h v. omega (arith, clear_length, v.young)));
        };
        journal = ap (tab (touched_at m' n)) clear_length ∙ nothing (touched_at m' n);
      }

pub clear_done : (m m₁ m₂ m' : List ℕ) (n j : ℕ) → Laid m n → j ≡ word m 1 → Stored m m₁ 4 0 → Stored m₁ m₂ 5 0 → Cleared m₂ m' j (by_touch n j) → Clears m m' n
clear_done m m₁ m₂ m' n j laid e s₁ s₂ k = clears m m₁ m₂ m' n laid s₁ s₂ (subst (λ (z : ℕ). Cleared m₂ m' z (by_touch n z)) e k)
