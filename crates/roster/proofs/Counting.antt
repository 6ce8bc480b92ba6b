-- The size of a sound dense set is the number of places inside, and is below n where a place is not inside.
use mathlib.Core.Path.{◌≡◌, refl, sym, ap, ◌∙◌, fun_ext, subst}
use mathlib.Core.Bool.{Bool, true, false, ◌||◌}
use mathlib.Core.List.{List, [], ◌∷◌}
use Prim.Native.Nat.{ℕ, zero, suc, ◌≤◌, ◌<◌}
use native.Mathlib.Decide.{ℕ_discrete}
use native.Mathlib.Omega.{arith}
use borrow.Author.Tests.{eq-eqb}
use lib.Dec.{eqb}
use lib.ListN.{length}
use Rattle.model.specs.Places.{count}
use Rattle.model.specs.Lists.{elem}
use Rattle.model.proofs.Tools.{by_bool}
use Rattle.model.proofs.ListLaws.{Once, count-elem, elem_cases, elem_nil}
use Rattle.model.proofs.Sums.{count_below}
use Rattle.roster.specs.Dense.{inside, Sound}
use Rattle.roster.proofs.DenseLaws.{in_stands, out_stands, sound_lists}

-- the first k members
firsts : (ℕ → ℕ) → ℕ → List ℕ
firsts member zero = []
firsts member (suc k) = member k ∷ firsts member k

module _ (member : ℕ → ℕ) where
  firsts_long : (k : ℕ) → length (firsts member k) ≡ k
  unfolding firsts
  firsts_long zero = refl
  firsts_long (suc k) = ap suc (firsts_long k)

  in_firsts : (k i : ℕ) → i < k → elem (member i) (firsts member k) ≡ true
  unfolding firsts elem
  in_firsts zero i h = absurd (omega arith)
  in_firsts (suc k) i h = go (ℕ_discrete i k) (in_firsts k i)
    where
      go : Dec (i ≡ k) → (i < k → elem (member i) (firsts member k) ≡ true) → (eqb (member i) (member k) || elem (member i) (firsts member k)) ≡ true
      go (yes e) again = rw (eq-eqb (member i) (member k) (ap member e))
      go (no e) again = by_bool (eqb (member i) (member k)) (λ f. rw f) (λ f. rw f (again (omega arith)))

  of_firsts : (k q : ℕ) → elem q (firsts member k) ≡ true → (i : ℕ) × (i < k) × (member i ≡ q)
  unfolding firsts
  of_firsts zero q e = elem_nil q e
  of_firsts (suc k) q e =
      elem_cases q (member k) (firsts member k) e (λ z. (k, omega arith, sym z))
      (λ z. let r = of_firsts k q z in (r.0, omega (arith, r.1), r.2))

module _ (n size : ℕ) (member position : ℕ → ℕ) (w : Sound n size member position) where
  not_in : (l : List ℕ) (q : ℕ) → (elem q l ≡ true → ⊥) → elem q l ≡ false
  not_in l q h = by_bool (elem q l) (λ e. absurd (h e)) (λ e. e)

  firsts_once : (k : ℕ) → k ≤ size → Once (firsts member k)
  unfolding firsts Once
  firsts_once zero h = tt
  firsts_once (suc k) h = (
    not_in (firsts member k) (member k) (λ e.
        let r = of_firsts member k (member k) e in
        let z : r.0 ≡ k = (sound_lists w).once r.0 k (omega (arith, r.1)) (omega arith) r.2 in
        omega (arith, r.1)),
    firsts_once k (omega arith),
  )

  same_set : (q : ℕ) → elem q (firsts member size) ≡ inside size member position q
  same_set q =
      by_bool (inside size member position q)
      (λ e. let s = in_stands size member position q e in
      subst (λ (z : ℕ). elem z (firsts member size) ≡ true) s.1 (in_firsts member size (position q) s.0) ∙ sym e)
      (λ e. not_in (firsts member size) q (λ f.
      let r = of_firsts member size q f in
      let y : position q ≡ r.0 = ap position (sym r.2) ∙ w.stands r.0 r.1 in
      out_stands size member position q e (omega (arith, r.1), ap member y ∙ r.2)) ∙ sym e)

  all_below : (q : ℕ) → elem q (firsts member size) ≡ true → q < n
  all_below q e = let r = of_firsts member size q e in omega (arith, r.2, w.below r.0 r.1)

  pub size_counts : count (inside size member position) n ≡ size
  size_counts =
      ap (λ (f : ℕ → Bool). count f n) (sym (fun_ext same_set))
      ∙ count-elem (firsts member size) n (firsts_once size (omega arith)) all_below ∙ firsts_long member size

  pub size_room : (p : ℕ) → p < n → inside size member position p ≡ false → size < n
  unfolding Once
  size_room p h e =
      let o : Once (p ∷ firsts member size) = (same_set p ∙ e, firsts_once size (omega arith)) in
      let b : (q : ℕ) → elem q (p ∷ firsts member size) ≡ true → q < n = λ q f. elem_cases q p (firsts member size) f (λ z. omega arith) (all_below q) in
      omega (arith, firsts_long member size, count-elem (p ∷ firsts member size) n o b, count_below (λ q. elem q (p ∷ firsts member size)) n)
