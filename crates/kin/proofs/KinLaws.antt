-- The steps of a place's linked value, one by one: whose child it is, the numbers of children, the roster of leaves.
use mathlib.Core.Path.{◌≡◌, refl, sym, ◌∙◌}
use mathlib.Core.Bool.{Bool, true, false, ◌&&◌}
use mathlib.Core.List.{List}
use Prim.Native.Nat.{ℕ, ◌+◌, ◌-◌, ◌≤◌, ◌<◌}
use native.Mathlib.Omega.{arith}
use lib.Dec.{ltb}
use lib.ListN.{length}
use borrow.Author.Tests.{eq-eqb, ne_eqb, ltb-true, lt-ltb, le-ltb}
use Rattle.model.proofs.Tools.{by_bool}
use Rattle.memory.specs.Words.{word, Stored}
use Rattle.memory.specs.Layout.{row, leaves_at, Laid}
use Rattle.memory.proofs.WordLaws.{stored_same, stored_other, stored_long}
use Rattle.contest.proofs.KeyLaws.{enters_yes, enters_no}
use Rattle.roster.specs.Roster.{member_at, size_at}
use Rattle.roster.specs.Writes.{Added, Dropped}
use Rattle.values.specs.Values.{Written}
use Rattle.values.specs.declared.Value.{Value}
use Rattle.state.proofs.SoundLaws.{laid_same}
use Rattle.kin.specs.Kin.{linked_at, up_at, kids_at, leaf_at, kin_of, Lowered, Raised, Judged}

-- ---- whose child ----

module _ (m : List ℕ) (n p : ℕ) where
  pub kin_unlinked : word m (row p + 56) ≡ 0 → n ≡ kin_of m n p
  kin_unlinked e = let z : linked_at m p ≡ false = enters_no m 0 p e in rw z

  pub kin_here : (word m (row p + 56) ≡ 0 → ⊥) → up_at m p < n → up_at m p ≡ kin_of m n p
  kin_here e l = let z : linked_at m p ≡ true = enters_yes m 0 p e in rw (z, lt-ltb (up_at m p) n l)

  pub kin_none : (word m (row p + 56) ≡ 0 → ⊥) → n ≤ up_at m p → n ≡ kin_of m n p
  kin_none e l = let z : linked_at m p ≡ true = enters_yes m 0 p e in rw (z, le-ltb (up_at m p) n l)

-- ---- numbers of children ----

module _ (m m' : List ℕ) (n u : ℕ) (u<n : u < n) (l : row u + 68 ≤ length m) where
  pub lowered : (kids_at m u ≡ 0 → ⊥) → Stored m m' (row u + 64) (kids_at m u - 1) → Lowered m m' n u
  lowered e s = record {
    only = λ a f. stored_other s a (f u<n);
    long = stored_long s;
    is = λ h k. let z = stored_same s (omega arith) in omega arith;
  }

  pub raised : Stored m m' (row u + 64) (kids_at m u + 1) → Raised m m' n u
  raised s = record { only = λ a f. stored_other s a (f u<n); long = stored_long s; is = λ h k. stored_same s (omega arith) }

-- ---- leaves ----

module _ (m : List ℕ) (n x : ℕ) where
  pub judged_nowhere : n ≤ x → Judged m m n x
  judged_nowhere h = record { only = λ a f g i. refl; long = refl; well = λ w. w; is = λ w l. absurd (omega arith); others = λ w q l f. refl }

  leaf_not : (word m (row x + 56) ≡ 0) → leaf_at m x ≡ false
  leaf_not e = let z : linked_at m x ≡ false = enters_no m 0 x e in rw z

  leaf_kids : (kids_at m x ≡ 0 → ⊥) → leaf_at m x ≡ false
  leaf_kids e = rw (ne_eqb (kids_at m x) 0 e) (and_no (linked_at m x))
    where
      and_no : (b : Bool) → (b && false) ≡ false
      and_no true = refl
      and_no false = refl

  leaf_is : (word m (row x + 56) ≡ 0 → ⊥) → kids_at m x ≡ 0 → leaf_at m x ≡ true
  leaf_is e f = let z : linked_at m x ≡ true = enters_yes m 0 x e in rw (z, eq-eqb (kids_at m x) 0 f)

  module _ (m' : List ℕ) (some : 1 ≤ n) where
    member_below : (i : ℕ) → member_at m n (leaves_at n) i < n
    unfolding member_at
    member_below i = by_bool (ltb (word m (leaves_at n + i)) n) (λ e. rw e (ltb-true (word m (leaves_at n + i)) n e)) (λ e. rw e (omega arith))

    dropped : Dropped m m' n (leaves_at n) 14 130 x → leaf_at m x ≡ false → Judged m m' n x
    dropped d e = record {
      only = λ a f g h. d.within a f (λ x y. g x (omega arith)) (λ e. h (member_at m n (leaves_at n) (size_at m n 14 - 1)) (member_below (size_at m n 14 - 1)) (omega arith));
      long = d.long;
      well = d.well;
      is = λ w l. d.now_out w ∙ sym e;
      others = d.others;
    }

    pub judged_unlinked : Dropped m m' n (leaves_at n) 14 130 x → word m (row x + 56) ≡ 0 → Judged m m' n x
    judged_unlinked d e = dropped d (leaf_not e)

    pub judged_parent : Dropped m m' n (leaves_at n) 14 130 x → (kids_at m x ≡ 0 → ⊥) → Judged m m' n x
    judged_parent d e = dropped d (leaf_kids e)

    pub judged_leaf : x < n → Added m m' n (leaves_at n) 14 130 x → (word m (row x + 56) ≡ 0 → ⊥) → kids_at m x ≡ 0 → Judged m m' n x
    judged_leaf l a e f = record { only = λ i y z h. a.within i y (λ b c. z b (omega arith)) (λ e. h x l (omega arith)); long = a.long; well = a.well; is = λ w l. a.now_in w ∙ sym (leaf_is e f); others = a.others }

-- ---- the layout stays ----

module _ {m m' : List ℕ} {n : ℕ} (laid : Laid m n) where
  pub lowered_laid : {u : ℕ} → Lowered m m' n u → Laid m' n
  lowered_laid s = laid_same m m' n laid (s.only 0 (λ l e. omega arith)) (s.only 1 (λ l e. omega arith)) s.long

  pub raised_laid : {u : ℕ} → Raised m m' n u → Laid m' n
  raised_laid s = laid_same m m' n laid (s.only 0 (λ l e. omega arith)) (s.only 1 (λ l e. omega arith)) s.long

  pub judged_laid : {x : ℕ} → Judged m m' n x → Laid m' n
  judged_laid s = laid_same m m' n laid (s.only 0 (λ e. omega arith) (λ x y. omega arith) (λ y l e. omega arith)) (s.only 1 (λ e. omega arith) (λ x y. omega arith) (λ y l e. omega arith)) s.long

  pub written_laid : {at : ℕ} {v : Value} → 64 ≤ at → Written m m' at v → Laid m' n
  written_laid h s = laid_same m m' n laid (s.only 0 (λ x y. omega arith)) (s.only 1 (λ x y. omega arith)) s.long

  pub stored_laid : {a v : ℕ} → 64 ≤ a → Stored m m' a v → Laid m' n
  stored_laid h s = laid_same m m' n laid (stored_other s 0 (λ e. omega arith)) (stored_other s 1 (λ e. omega arith)) (stored_long s)
