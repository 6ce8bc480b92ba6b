-- Laws of tests, of the search for a place, and of lists of hashes.
use Prim.Native.Nat.{ℕ, zero, suc, ◌<◌}
use mathlib.Core.Path.{◌≡◌, refl, sym, ◌∙◌, ap}
use mathlib.Core.Bool.{Bool, true, false, cond, not, ◌&&◌, ◌||◌}
use mathlib.Core.Option.{Option, none, some}
use mathlib.Core.List.{List, [], ◌∷◌, reverse, reverse_aux}
use native.Mathlib.Omega.{arith}
use lib.Dec.{eqb, ltb}
use borrow.Author.Tests.{eqb-true, eqb-false, eq-eqb, ltb-true, lt-ltb, le-ltb}
use Rattle.model.specs.Places.{or_else, first, choose, pick, then_by, put_at}
use Rattle.model.specs.Lists.{elem, without, distinct}

-- ---- cases, with the equation ----

pub by_bool : {P : Type 0} (b : Bool) → (b ≡ true → P) → (b ≡ false → P) → P
by_bool true t f = t refl
by_bool false t f = f refl

pub by_option : {A P : Type 0} (o : Option A) → (o ≡ none → P) → ((a : A) → o ≡ some a → P) → P
by_option none n s = n refl
by_option (some a) n s = s a refl

pub no_both : {P : Type 0} (b : Bool) → b ≡ true → b ≡ false → P
no_both b t f = let z : ◌≡◌ {A = ℕ} 0 1 = cc in absurd (omega arith)

pub no_none : {A P : Type 0} {a : A} (o : Option A) → o ≡ none → o ≡ some a → P
no_none o t f = let z : ◌≡◌ {A = ℕ} 0 1 = cc in absurd (omega arith)

pub and_left : (a b : Bool) → (a && b) ≡ true → a ≡ true
and_left true b e = refl
and_left false b e = e

pub and_right : (a b : Bool) → (a && b) ≡ true → b ≡ true
and_right true b e = e
and_right false b e = no_both false e refl

pub or_left : (a b : Bool) → (a || b) ≡ false → a ≡ false
or_left true b e = e
or_left false b e = refl

pub or_right : (a b : Bool) → (a || b) ≡ false → b ≡ false
or_right true b e = no_both true refl e
or_right false b e = e

pub not_is : (a : Bool) → not a ≡ false → a ≡ true
not_is true e = refl
not_is false e = sym e

pub not_is_true : (a : Bool) → not a ≡ true → a ≡ false
not_is_true true e = sym e
not_is_true false e = refl

-- ---- the search for a place ----

pub first_some : (f : ℕ → Bool) (n p : ℕ) → first f n ≡ some p → (f p ≡ true) × (p < n)
unfolding first
first_some f zero p e = no_none none refl e
first_some f (suc n) p e = go (first f n) refl (f n) refl (first_some f n p) e
  where
    go : (o : Option ℕ) → first f n ≡ o → (b : Bool) → f n ≡ b → (first f n ≡ some p → (f p ≡ true) × (p < n)) → or_else o (cond b (some n) none) ≡ some p → (f p ≡ true) × (p < suc n)
    go none q true t ih e = let z : n ≡ p = cc in (rw z at t, omega arith)
    go none q false t ih e = no_none none refl e
    go (some r) q b t ih e = let h = ih (q ∙ e) in (h.0, omega arith)

pub first_none : (f : ℕ → Bool) (n k : ℕ) → first f n ≡ none → k < n → f k ≡ false
unfolding first
first_none f zero k e h = absurd (omega arith)
first_none f (suc n) k e h = go (first f n) refl (f n) refl (first_none f n k) e
  where
    go : (o : Option ℕ) → first f n ≡ o → (b : Bool) → f n ≡ b → (first f n ≡ none → k < n → f k ≡ false) → or_else o (cond b (some n) none) ≡ none → f k ≡ false
    go none q true t ih e = no_none (some n) e refl
    go none q false t ih e = by_bool (eqb k n) (λ i. let z = eqb-true k n i in rw z t) (λ i. ih q (omega (arith, eqb-false k n i)))
    go (some r) q b t ih e = no_none (some r) e refl

pub first_exists : (f : ℕ → Bool) (n p : ℕ) → f p ≡ true → p < n → (q : ℕ) × (first f n ≡ some q)
first_exists f n p t h = by_option (first f n) (λ e. no_both (f p) t (first_none f n p e h)) (λ q e. (q, e))

-- the one place that passes the test is found
pub first_only : (f : ℕ → Bool) (n p : ℕ) → f p ≡ true → p < n → ((q : ℕ) → f q ≡ true → q ≡ p) → first f n ≡ some p
first_only f n p t h only =
    let q : (q : ℕ) × (first f n ≡ some q) = first_exists f n p t h in
    q.1 ∙ ap {B = Option ℕ} some (only q.0 (first_some f n q.0 q.1).0)

-- where no place passes, none is found
pub first_nowhere : (f : ℕ → Bool) (n : ℕ) → ((q : ℕ) → f q ≡ false) → first f n ≡ none
first_nowhere f n h = by_option (first f n) (λ e. e) (λ q e. no_both (f q) (first_some f n q e).0 (h q))

-- the lowest that passes is the first
pub first_lowest : (f : ℕ → Bool) (n p : ℕ) → f p ≡ true → p < n → ((q : ℕ) → q < p → f q ≡ false) → first f n ≡ some p
unfolding first
first_lowest f zero p t h low = absurd (omega arith)
first_lowest f (suc n) p t h low =
    by_bool (eqb p n)
    (λ e. let z : p ≡ n = eqb-true p n e in let t' : f n ≡ true = rw z at t in let o : first f n ≡ none = nothing z in rw (o, t', z))
    (λ e. let ne : p ≡ n → ⊥ = eqb-false p n e in let o : first f n ≡ some p = first_lowest f n p t (omega arith) low in rw o)
  where
    nothing : p ≡ n → first f n ≡ none
    nothing z = by_option (first f n) (λ e. e) (λ q e. let k = first_some f n q e in no_both (f q) k.0 (low q (let l = k.1 in omega arith)))

-- none below the first
pub first_low : (f : ℕ → Bool) (n p q : ℕ) → first f n ≡ some p → q < p → f q ≡ false
unfolding first
first_low f zero p q e h = no_none none refl e
first_low f (suc n) p q e h = go (first f n) refl (f n) refl (first_low f n p q) e
  where
    go : (o : Option ℕ) → first f n ≡ o → (b : Bool) → f n ≡ b → (first f n ≡ some p → q < p → f q ≡ false) → or_else o (cond b (some n) none) ≡ some p → f q ≡ false
    go none i true t ih e = let z : n ≡ p = cc in first_none f n q i (omega arith)
    go none i false t ih e = no_none none refl e
    go (some r) i b t ih e = ih (i ∙ e) h

-- ---- the place that goes before the others ----

pub pick_some : (f : ℕ → Bool) (less : ℕ → ℕ → Bool) (n p : ℕ) → pick f less n ≡ some p → (f p ≡ true) × (p < n)
unfolding pick
pick_some f less zero p e = no_none none refl e
pick_some f less (suc n) p e = go (f n) refl (pick f less n) refl (pick_some f less n p) e
  where
    go : (b : Bool) → f n ≡ b → (o : Option ℕ) → pick f less n ≡ o → (pick f less n ≡ some p → (f p ≡ true) × (p < n)) → cond b (choose less n o) o ≡ some p → (f p ≡ true) × (p < suc n)
    go false t o q ih e = let k = ih (q ∙ e) in (k.0, omega arith)
    go true t none q ih e = let z : n ≡ p = cc in (rw z at t, omega arith)
    go true t (some r) q ih e = by_bool (less n r) (λ i. let e' : ◌≡◌ {A = Option ℕ} (some n) (some p) = rw i at e in let z : n ≡ p = cc in (rw z at t, omega arith)) (λ i. let e' : ◌≡◌ {A = Option ℕ} (some r) (some p) = rw i at e in let k = ih (q ∙ e') in (k.0, omega arith))

pub pick-none : (f : ℕ → Bool) (less : ℕ → ℕ → Bool) (n k : ℕ) → pick f less n ≡ none → k < n → f k ≡ false
unfolding pick
pick-none f less zero k e i = absurd (omega arith)
pick-none f less (suc n) k e i = go (f n) refl (pick f less n) refl (pick-none f less n k) e
  where
    go : (b : Bool) → f n ≡ b → (o : Option ℕ) → pick f less n ≡ o → (pick f less n ≡ none → k < n → f k ≡ false) → cond b (choose less n o) o ≡ none → f k ≡ false
    go false t o q ih e = by_bool (eqb k n) (λ j. rw (eqb-true k n j) t) (λ j. ih (q ∙ e) (let ne : k ≡ n → ⊥ = eqb-false k n j in omega arith))
    go true t none q ih e = no_none (some n) e refl
    go true t (some r) q ih e = by_bool (less n r) (λ i. no_none (some n) (rw i at e) refl) (λ i. no_none (some r) (rw i at e) refl)

-- no other that passes the test goes before the one picked
pub pick_least : (f : ℕ → Bool) (less : ℕ → ℕ → Bool) → ((p : ℕ) → less p p ≡ false) → ((p q r : ℕ) → less p q ≡ true → less q r ≡ true → less p r ≡ true)
    → (n p q : ℕ) → pick f less n ≡ some p → f q ≡ true → q < n → less q p ≡ false
unfolding pick
pick_least f less self trans zero p q e t i = absurd (omega arith)
pick_least f less self trans (suc n) p q e t i = go (f n) refl (pick f less n) refl (λ r k. pick_least f less self trans n r q k t) e
  where
    go : (b : Bool) → f n ≡ b → (o : Option ℕ) → pick f less n ≡ o → ((r : ℕ) → pick f less n ≡ some r → q < n → less q r ≡ false) → cond b (choose less n o) o ≡ some p → less q p ≡ false
    go false u o k ih e = by_bool (eqb q n) (λ j. no_both (f n) (rw (eqb-true q n j) at t) u) (λ j. let ne : q ≡ n → ⊥ = eqb-false q n j in ih p (k ∙ e) (omega arith))
    go true u none k ih e =
        let z : n ≡ p = cc in
        by_bool (eqb q n) (λ j. let y : q ≡ n = eqb-true q n j in rw (← z, y) (self n)) (λ j. let ne : q ≡ n → ⊥ = eqb-false q n j in no_both (f q) t (pick-none f less n q k (omega arith)))
    go true u (some r) k ih e = by_bool (less n r) newer older
      where
        newer : less n r ≡ true → less q p ≡ false
        newer j =
            let e' : ◌≡◌ {A = Option ℕ} (some n) (some p) = rw j at e in
            let z : n ≡ p = cc in
            by_bool (eqb q n) (λ m. let y : q ≡ n = eqb-true q n m in rw (← z, y) (self n)) (λ m. let ne : q ≡ n → ⊥ = eqb-false q n m in rw (← z) (by_bool (less q n) (λ s. no_both (less q r) (trans q n r s j) (ih r k (omega arith))) (λ s. s)))

        older : less n r ≡ false → less q p ≡ false
        older j =
            let e' : ◌≡◌ {A = Option ℕ} (some r) (some p) = rw j at e in
            let z : r ≡ p = cc in
            by_bool (eqb q n) (λ m. let y : q ≡ n = eqb-true q n m in rw (← z, y) j) (λ m. let ne : q ≡ n → ⊥ = eqb-false q n m in rw (← z) (ih r k (omega arith)))

-- ---- orders by one number and then another ----

pub then_by_self : (a : ℕ) (r : Bool) → r ≡ false → then_by a a r ≡ false
then_by_self a r e = rw (le-ltb a a (omega arith), eq-eqb a a refl) e

pub then_by_trans : (a b c : ℕ) (r s t : Bool) → (r ≡ true → s ≡ true → t ≡ true) → then_by a b r ≡ true → then_by b c s ≡ true → then_by a c t ≡ true
then_by_trans a b c r s t k e f = go (ltb a b) refl (eqb a b) refl (ltb b c) refl (eqb b c) refl e f
  where
    less : a < c → then_by a c t ≡ true
    less i = rw (lt-ltb a c i)

    go : (u : Bool) → ltb a b ≡ u → (v : Bool) → eqb a b ≡ v → (x : Bool) → ltb b c ≡ x → (y : Bool) → eqb b c ≡ y → (u || v && r) ≡ true → (x || y && s) ≡ true → then_by a c t ≡ true
    go true p v q true p' y q' e f = less (omega (arith, ltb-true a b p, ltb-true b c p'))
    go true p v q false p' true q' e f = less (omega (arith, ltb-true a b p, eqb-true b c q'))
    go true p v q false p' false q' e f = no_both false f refl
    go false p true q true p' y q' e f = less (omega (arith, eqb-true a b q, ltb-true b c p'))
    go false p true q false p' true q' e f =
        let z : a ≡ c = eqb-true a b q ∙ eqb-true b c q' in
        rw (eq-eqb a c z, le-ltb a c (omega arith)) (k e f)
    go false p true q false p' false q' e f = no_both false f refl
    go false p false q x p' y q' e f = no_both false e refl

-- ---- what is kept by place ----

pub put_same : {A : Type 0} (f : ℕ → A) (p : ℕ) (a : A) → put_at f p a p ≡ a
put_same f p a = rw (eq-eqb p p refl)

pub put_other : {A : Type 0} (f : ℕ → A) (p : ℕ) (a : A) (q : ℕ) → eqb q p ≡ false → put_at f p a q ≡ f q
put_other f p a q h = rw h

-- ---- lists of hashes ----

or_shift : (a b c : Bool) → (a || (b || c)) ≡ (b || a || c)
or_shift true true c = refl
or_shift true false c = refl
or_shift false true c = refl
or_shift false false c = refl

elem-reverse_aux : (x : ℕ) (l r : List ℕ) → elem x (reverse_aux l r) ≡ (elem x l || elem x r)
unfolding elem
elem-reverse_aux x [] r = refl
elem-reverse_aux x (y ∷ l) r = elem-reverse_aux x l (y ∷ r) ∙ or_shift (elem x l) (eqb x y) (elem x r)

pub or_none : (a : Bool) → (a || false) ≡ a
or_none true = refl
or_none false = refl

pub elem-reverse : (x : ℕ) (l : List ℕ) → elem x (reverse l) ≡ elem x l
unfolding elem
elem-reverse x l = elem-reverse_aux x l [] ∙ or_none (elem x l)

elem-without : (x y : ℕ) (l : List ℕ) → elem x (without y l) ≡ (not (eqb x y) && elem x l)
unfolding elem without
elem-without x y [] = by_bool (eqb x y) (λ e. rw e) (λ e. rw e)
elem-without x y (z ∷ l) = go (eqb y z) refl (eqb x y) refl (eqb x z) refl (elem-without x y l)
  where
    go : (a : Bool) → eqb y z ≡ a → (b : Bool) → eqb x y ≡ b → (c : Bool) → eqb x z ≡ c → elem x (without y l) ≡ (not (eqb x y) && elem x l) → elem x (cond a (without y l) (z ∷ without y l)) ≡ (not b && (c || elem x l))
    go true p true q c r ih = rw q at ih
    go true p false q true r ih = no_both (eqb x y) (eq-eqb x y (eqb-true x z r ∙ sym (eqb-true y z p))) q
    go true p false q false r ih = rw q at ih
    go false p true q true r ih = no_both (eqb y z) (eq-eqb y z (sym (eqb-true x y q) ∙ eqb-true x z r)) p
    go false p true q false r ih = rw r (rw q at ih)
    go false p false q true r ih = rw r
    go false p false q false r ih = rw r (rw q at ih)

pub elem-distinct : (x : ℕ) (l : List ℕ) → elem x (distinct l) ≡ elem x l
unfolding elem distinct
elem-distinct x [] = refl
elem-distinct x (y ∷ l) = rw (elem-without x y (distinct l), elem-distinct x l) (by_bool (eqb x y) (λ e. rw e) (λ e. rw e))
