-- Laws of dense sets as functions: a member, a place more, a place less.
use mathlib.Core.Path.{◌≡◌, refl, sym, ap, ◌∙◌}
use mathlib.Core.Bool.{Bool, true, false}
use Prim.Native.Nat.{ℕ, ◌+◌, ◌≤◌, ◌<◌}
use native.Mathlib.Decide.{ℕ_discrete}
use native.Mathlib.Omega.{arith}
use borrow.Author.Tests.{ltb-true, eqb-true, lt-ltb, eq-eqb}
use lib.Dec.{eqb, ltb}
use Rattle.model.proofs.Tools.{by_bool, and_left, and_right, no_both}
use Rattle.roster.specs.Dense.{inside, Sound, Lists}

-- what `inside` tests, as facts
abbrev pub Stands : ℕ → (ℕ → ℕ) → (ℕ → ℕ) → ℕ → Type 0
Stands size member position p = (position p < size) × (member (position p) ≡ p)

pub in_stands : (size : ℕ) (member position : ℕ → ℕ) (p : ℕ) → inside size member position p ≡ true → Stands size member position p
unfolding inside
in_stands size member position p e = (
  ltb-true _ _ (and_left (ltb (position p) size) (eqb (member (position p)) p) e),
  eqb-true _ _ (and_right (ltb (position p) size) (eqb (member (position p)) p) e),
)

pub stands_in : (size : ℕ) (member position : ℕ → ℕ) (p : ℕ) → Stands size member position p → inside size member position p ≡ true
unfolding inside
stands_in size member position p h = rw (lt-ltb (position p) size h.0, eq-eqb (member (position p)) p h.1)

pub stands_out : (size : ℕ) (member position : ℕ → ℕ) (p : ℕ) → (Stands size member position p → ⊥) → inside size member position p ≡ false
stands_out size member position p h =
    by_bool (inside size member position p) (λ e. absurd (h (in_stands size member position p e))) (λ e. e)

pub out_stands : (size : ℕ) (member position : ℕ → ℕ) (p : ℕ) → inside size member position p ≡ false → Stands size member position p → ⊥
out_stands size member position p e h = no_both _ (stands_in size member position p h) e

-- by a position i that was read, and the member r there
pub inside_past : (size : ℕ) (member position : ℕ → ℕ) (p z i : ℕ) → z ≡ size → i ≡ position p → z ≤ i → inside size member position p ≡ false
inside_past size member position p z i e f h = stands_out size member position p (λ v. omega (arith, v.0))

pub inside_at : (size : ℕ) (member position : ℕ → ℕ) (p z i r : ℕ) → z ≡ size → i ≡ position p → i < z → r ≡ member i
    → eqb r p ≡ inside size member position p
unfolding inside
inside_at size member position p z i r e f h g =
    let k : position p < size = omega arith in
    rw (lt-ltb (position p) size k) (ap (λ (y : ℕ). eqb y p) (g ∙ ap member f))

same_bool : (a b : Bool) → (a ≡ true → b ≡ true) → (b ≡ true → a ≡ true) → b ≡ a
same_bool true b f g = f refl
same_bool false true f g = sym (g refl)
same_bool false false f g = refl

pub sound_lists : {n size : ℕ} {member position : ℕ → ℕ} → Sound n size member position → Lists n size member position
sound_lists {n} {size} {member} {position} w =
    record {
      sound = λ i h. let e = w.stands i h in (w.below i h, stands_in size member position (member i) (omega arith, ap member e));
      once = λ i j h k e. sym (w.stands i h) ∙ ap position e ∙ w.stands j k;
      complete = in_stands size member position;
    }

pub same_inside : (size size' : ℕ) (member member' position position' : ℕ → ℕ) (q : ℕ)
    → (Stands size member position q → Stands size' member' position' q) → (Stands size' member' position' q → Stands size member position q)
    → inside size' member' position' q ≡ inside size member position q
same_inside size size' member member' position position' q f g =
    same_bool (inside size member position q) (inside size' member' position' q)
    (λ e. stands_in size' member' position' q (f (in_stands size member position q e)))
    (λ e. stands_in size member position q (g (in_stands size' member' position' q e)))

-- the same set by other functions
pub sound_same : (n size size' : ℕ) (member member' position position' : ℕ → ℕ) → size' ≡ size
    → ((i : ℕ) → i < size → member' i ≡ member i) → ((q : ℕ) → q < n → position' q ≡ position q)
    → Sound n size member position → Sound n size' member' position'
sound_same n size size' member member' position position' e f g w =
    record {
      few = omega (arith, w.few);
      below = λ i h. let j : i < size = omega arith in omega (arith, f i j, w.below i j);
      stands = λ i h. let j : i < size = omega arith in ap position' (f i j) ∙ g (member i) (w.below i j) ∙ w.stands i j;
    }

module _ (n size size' : ℕ) (member member' position position' : ℕ → ℕ) (w : Sound n size member position) (p : ℕ) (p<n : p < n) where
  abbrev Was : ℕ → Type 0
  Was q = Stands size member position q

  abbrev Is : ℕ → Type 0
  Is q = Stands size' member' position' q

  -- place p, which is not inside, becomes the last member
  module _ (out : Was p → ⊥) (room : size < n) (larger : size' ≡ size + 1) (last : member' size ≡ p)
      (members : (i : ℕ) → i < size → member' i ≡ member i) (at : position' p ≡ size)
      (positions : (q : ℕ) → q < n → (q ≡ p → ⊥) → position' q ≡ position q) where
    add_stands : (i : ℕ) → i < size' → Dec (i ≡ size) → (member' i < n) × (position' (member' i) ≡ i)
    add_stands i h (yes e) =
        let m : member' i ≡ p = ap member' e ∙ last in
        (omega arith, ap position' m ∙ at ∙ sym e)
    add_stands i h (no e) =
        let j : i < size = omega arith in
        let m = members i j in
        let b = w.below i j in
        let s = w.stands i j in
        (omega arith, ap position' m ∙ positions (member i) b (λ z. out (let y : position p ≡ i = ap position (sym z) ∙ s in (omega arith, ap member y ∙ z))) ∙ s)

    pub add_sound : Sound n size' member' position'
    add_sound =
        record {
          few = omega arith;
          below = λ i h. (add_stands i h (ℕ_discrete i size)).0;
          stands = λ i h. (add_stands i h (ℕ_discrete i size)).1;
        }

    pub add_in : Is p
    add_in = (omega arith, ap member' at ∙ last)

    pub add_others : (q : ℕ) → q < n → (q ≡ p → ⊥) → inside size' member' position' q ≡ inside size member position q
    add_others q h ne = same_inside size size' member member' position position' q to (λ v. of v (ℕ_discrete (position q) size))
      where
        e : position' q ≡ position q
        e = positions q h ne

        to : Was q → Is q
        to v = let f = e in (omega arith, ap member' e ∙ members (position q) v.0 ∙ v.1)

        of : Is q → Dec (position q ≡ size) → Was q
        of v (yes z) = absurd (ne (sym v.1 ∙ ap member' (e ∙ z) ∙ last))
        of v (no z) =
            let f = e in
            let j : position q < size = omega (arith, v.0) in
            (j, sym (members (position q) j) ∙ ap member' (sym e) ∙ v.1)

  -- place p, which is inside, goes, and the last member takes its position
  module _ (v : Was p) (smaller : size ≡ size' + 1) (moved : member' (position p) ≡ member size')
      (members : (i : ℕ) → i < size' → (i ≡ position p → ⊥) → member' i ≡ member i) (at : position' (member size') ≡ position p)
      (positions : (q : ℕ) → q < n → (q ≡ member size' → ⊥) → position' q ≡ position q) where
    end : position (member size') ≡ size'
    end = w.stands size' (omega arith)

    end_below : member size' < n
    end_below = w.below size' (omega arith)

    -- only the last member stands last
    not_end : (q : ℕ) → Was q → (q ≡ member size' → ⊥) → position q < size'
    not_end q u ne = go (ℕ_discrete (position q) size')
      where
        go : Dec (position q ≡ size') → position q < size'
        go (yes e) = absurd (ne (sym u.1 ∙ ap member e))
        go (no e) = omega (arith, u.0)

    drop_stands : (i : ℕ) → i < size' → Dec (i ≡ position p) → (member' i < n) × (position' (member' i) ≡ i)
    drop_stands i h (yes e) =
        let m : member' i ≡ member size' = ap member' e ∙ moved in
        let b = end_below in
        (omega arith, ap position' m ∙ at ∙ sym e)
    drop_stands i h (no e) =
        let j : i < size = omega arith in
        let m = members i h e in
        let b = w.below i j in
        let s = w.stands i j in
        (omega arith, ap position' m ∙ positions (member i) b (λ z. let y : i ≡ size' = sym s ∙ ap position z ∙ end in omega arith) ∙ s)

    pub drop_sound : Sound n size' member' position'
    drop_sound =
        record {
          few = omega (arith, w.few);
          below = λ i h. (drop_stands i h (ℕ_discrete i (position p))).0;
          stands = λ i h. (drop_stands i h (ℕ_discrete i (position p))).1;
        }

    pub drop_out : Is p → ⊥
    drop_out u = go (ℕ_discrete p (member size'))
      where
        go : Dec (p ≡ member size') → ⊥
        go (yes e) = let y : position' p ≡ size' = ap position' e ∙ at ∙ ap position e ∙ end in omega (arith, u.0)
        go (no e) = e (sym u.1 ∙ ap member' (positions p p<n e) ∙ moved)

    pub drop_others : (q : ℕ) → q < n → (q ≡ p → ⊥) → inside size' member' position' q ≡ inside size member position q
    drop_others q h ne = same_inside size size' member member' position position' q (to (ℕ_discrete q (member size'))) (of (ℕ_discrete q (member size')))
      where
        to : Dec (q ≡ member size') → Was q → Is q
        to (yes e) u =
            let y : position' q ≡ position p = ap position' e ∙ at in
            let k = not_end p v (λ z. ne (e ∙ sym z)) in
            (omega arith, ap member' y ∙ moved ∙ sym e)
        to (no e) u =
            let y = positions q h e in
            let k = not_end q u e in
            (omega arith, ap member' y ∙ members (position q) k (λ z. ne (sym u.1 ∙ ap member z ∙ v.1)) ∙ u.1)

        of : Dec (q ≡ member size') → Is q → Was q
        of (yes e) u = let y : position q ≡ size' = ap position e ∙ end in (omega arith, ap member y ∙ sym e)
        of (no e) u =
            let y = positions q h e in
            let k : position q < size' = omega (arith, u.0) in
            (omega arith, sym (members (position q) k (λ z. e (sym u.1 ∙ ap member' (y ∙ z) ∙ moved))) ∙ ap member' (sym y) ∙ u.1)
