-- Laws of lists of slots: members, a list without one of them, and the pigeonhole.
use mathlib.Core.Path.{◌≡◌, refl, sym, ap, ◌∙◌}
use mathlib.Core.Logic.{◌⊎◌, inl, inr, ⊎_elim}
use mathlib.Core.Bool.{true}
use mathlib.Core.List.{List, [], ◌∷◌}
use Prim.Native.Nat.{ℕ, ◌≤◌, ◌<◌}
use native.Mathlib.Decide.{ℕ_discrete}
use native.Mathlib.Omega.{arith}
use borrow.Author.Tests.{eq-eqb, ltb-true, ltb-false}
use lib.Dec.{eqb, ltb}
use lib.ListN.{length}
use Rattle.model.specs.Lists.{elem}
use Rattle.model.proofs.Tools.{by_bool}
use Rattle.model.proofs.ListLaws.{Once, count-elem, elem_cases, elem_nil}
use Rattle.model.proofs.Sums.{count_below}
use Rattle.index.specs.Chain.{In, Distinct}

pub below_or : (a b : ℕ) → (a < b) ⊎ (b ≤ a)
below_or a b = by_bool (ltb a b) (λ e. inl (ltb-true a b e)) (λ e. inr (ltb-false a b e))

pub in_eq : (l : List ℕ) {x y : ℕ} → x ≡ y → In x l → In y l
in_eq [] e h = h
in_eq (z ∷ l) e (inl h) = inl (sym e ∙ h)
in_eq (z ∷ l) e (inr h) = inr (in_eq l e h)

-- ---- in the model's words ----

pub in_elem : (l : List ℕ) (x : ℕ) → In x l → elem x l ≡ true
unfolding elem
in_elem [] x h = absurd h
in_elem (y ∷ l) x (inl e) = rw (eq-eqb x y e)
in_elem (y ∷ l) x (inr h) = by_bool (eqb x y) (λ e. rw e) (λ e. rw e (in_elem l x h))

pub elem_in : (l : List ℕ) (x : ℕ) → elem x l ≡ true → In x l
elem_in [] x e = elem_nil x e
elem_in (y ∷ l) x e = elem_cases x y l e (λ k. inl k) (λ k. inr (elem_in l x k))

pub distinct_once : (l : List ℕ) → Distinct l → Once l
unfolding Once
distinct_once [] d = tt
distinct_once (y ∷ l) d = (by_bool (elem y l) (λ e. absurd (d.0 (elem_in l y e))) (λ e. e), distinct_once l d.1)

-- the pigeonhole principle: slots below n, each once, are at most n
pub pigeons : (n : ℕ) (l : List ℕ) → Distinct l → ((q : ℕ) → In q l → q < n) → length l ≤ n
pigeons n l d h =
    omega (arith, count-elem l n (distinct_once l d) (λ x e. h x (elem_in l x e)), count_below (λ p. elem p l) n)

-- ---- a list without x ----

keep : {x y : ℕ} → Dec (x ≡ y) → List ℕ → List ℕ
keep {y = y} (yes e) l = l
keep {y = y} (no e) l = y ∷ l

pub without : ℕ → List ℕ → List ℕ
without x [] = []
without x (y ∷ l) = keep (ℕ_discrete x y) (without x l)

in_keep : {x y : ℕ} (t : Dec (x ≡ y)) (w : List ℕ) (q : ℕ) → (q ≡ x → ⊥) → (q ≡ y) ⊎ In q w → In q (keep t w)
unfolding keep
in_keep (yes e) w q h (inl k) = absurd (h (k ∙ sym e))
in_keep (yes e) w q h (inr k) = k
in_keep (no e) w q h k = k

pub in_without : (x : ℕ) (l : List ℕ) (q : ℕ) → In q l → (q ≡ x → ⊥) → In q (without x l)
unfolding without
in_without x [] q h k = h
in_without x (y ∷ l) q (inl h) k = in_keep (ℕ_discrete x y) (without x l) q k (inl h)
in_without x (y ∷ l) q (inr h) k = in_keep (ℕ_discrete x y) (without x l) q k (inr (in_without x l q h k))

of_keep : {x y : ℕ} (t : Dec (x ≡ y)) (w : List ℕ) (q : ℕ) → In q (keep t w) → ((q ≡ y) × (q ≡ x → ⊥)) ⊎ In q w
unfolding keep
of_keep (yes e) w q h = inr h
of_keep (no e) w q (inl h) = inl (h, λ k. e (sym k ∙ h))
of_keep (no e) w q (inr h) = inr h

pub of_without : (x : ℕ) (l : List ℕ) (q : ℕ) → In q (without x l) → In q l × (q ≡ x → ⊥)
unfolding without
of_without x [] q h = absurd h
of_without x (y ∷ l) q h =
    ⊎_elim (λ k. (inl k.0, k.1)) (λ k. let r = of_without x l q k in (inr r.0, r.1)) (of_keep (ℕ_discrete x y) (without x l) q h)

keep_same : {x y : ℕ} (t : Dec (x ≡ y)) (w : List ℕ) → (x ≡ y → ⊥) → keep t w ≡ y ∷ w
unfolding keep
keep_same (yes e) w h = absurd (h e)
keep_same (no e) w h = refl

keep_drop : {x y : ℕ} (t : Dec (x ≡ y)) (w : List ℕ) → x ≡ y → keep t w ≡ w
unfolding keep
keep_drop (yes e) w h = refl
keep_drop (no e) w h = absurd (e h)

without_absent : (x : ℕ) (l : List ℕ) → (In x l → ⊥) → without x l ≡ l
unfolding without
without_absent x [] h = refl
without_absent x (y ∷ l) h =
    keep_same (ℕ_discrete x y) (without x l) (λ e. h (inl e)) ∙ ap {B = List ℕ} (λ r. y ∷ r) (without_absent x l (λ k. h (inr k)))

pub without_first : (x y : ℕ) (l : List ℕ) → x ≡ y → (In y l → ⊥) → without x (y ∷ l) ≡ l
unfolding without
without_first x y l e h = keep_drop (ℕ_discrete x y) (without x l) e ∙ without_absent x l (λ k. h (in_eq l e k))

pub without_other : (x y : ℕ) (l : List ℕ) → (x ≡ y → ⊥) → without x (y ∷ l) ≡ y ∷ without x l
unfolding without
without_other x y l h = keep_same (ℕ_discrete x y) (without x l) h
