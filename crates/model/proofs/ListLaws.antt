-- Laws of the list tools: members, fronts, sums, and the pigeonhole.
use Prim.Native.Nat.{ℕ, zero, suc, ◌+◌, ◌≤◌, ◌<◌}
use mathlib.Core.Path.{◌≡◌, refl, sym, ◌∙◌, ap}
use mathlib.Core.Bool.{Bool, true, false, cond, not, ◌||◌}
use mathlib.Core.Option.{none, some}
use mathlib.Core.List.{List, [], ◌∷◌, ◌++◌, reverse, reverse-cons}
use native.Mathlib.Omega.{arith}
use lib.ListN.{length}
use lib.Dec.{eqb}
use borrow.Author.Tests.{eqb-true, eqb-false, eq-eqb, ne_eqb}
use Rattle.model.specs.Places.{count, sum}
use Rattle.model.specs.Lists.{elem, those, only, any, front, find, last, total}
use Rattle.model.proofs.Tools.{by_bool, no_both, no_none, or_left, or_right, elem-reverse}

pub or_cases : {P : Type 0} (a b : Bool) → (a || b) ≡ true → (a ≡ true → P) → (b ≡ true → P) → P
or_cases true b e f g = f refl
or_cases false b e f g = g e

-- ---- members ----

pub elem_nil : {P : Type 0} (x : ℕ) → elem x [] ≡ true → P
unfolding elem
elem_nil x e = no_both false e refl

pub elem_none : (x : ℕ) → elem x [] ≡ false
unfolding elem
elem_none x = refl

pub elem_head : (x : ℕ) (l : List ℕ) → elem x (x ∷ l) ≡ true
unfolding elem
elem_head x l = rw (eq-eqb x x refl)

pub elem_middle : (x : ℕ) (k l : List ℕ) → elem x (k ++ (x ∷ l)) ≡ true
unfolding elem
elem_middle x [] l = rw (eq-eqb x x refl)
elem_middle x (y ∷ k) l = by_bool (eqb x y) (λ e. rw e) (λ e. rw e (elem_middle x k l))

pub never_nil : (k : List ℕ) (x : ℕ) (l : List ℕ) → [] ≡ k ++ (x ∷ l) → ⊥
never_nil [] x l e = let z : ◌≡◌ {A = ℕ} 0 1 = cc in omega arith
never_nil (y ∷ k) x l e = let z : ◌≡◌ {A = ℕ} 0 1 = cc in omega arith

pub elem_cases : {P : Type 0} (x y : ℕ) (l : List ℕ) → elem x (y ∷ l) ≡ true → (x ≡ y → P) → (elem x l ≡ true → P) → P
unfolding elem
elem_cases x y l e f g = or_cases (eqb x y) (elem x l) e (λ i. f (eqb-true x y i)) g

pub elem_append : {P : Type 0} (x : ℕ) (k l : List ℕ) → elem x (k ++ l) ≡ true → (elem x k ≡ true → P) → (elem x l ≡ true → P) → P
unfolding elem
elem_append x [] l e f g = g e
elem_append x (y ∷ k) l e f g = or_cases (eqb x y) (elem x (k ++ l)) e (λ i. f (rw i)) (λ i. elem_append x k l i (λ j. f (by_bool (eqb x y) (λ m. rw m) (λ m. rw m j))) g)

pub elem-only : (f : ℕ → Bool) (x : ℕ) (l : List ℕ) → elem x (only f l) ≡ true → (f x ≡ true) × (elem x l ≡ true)
unfolding elem only
elem-only f x [] e = no_both false e refl
elem-only f x (y ∷ l) e = go (f y) refl (elem-only f x l) e
  where
    later : (f x ≡ true) × (elem x l ≡ true) → (f x ≡ true) × ((eqb x y || elem x l) ≡ true)
    later k = (k.0, by_bool (eqb x y) (λ m. rw m) (λ m. rw m k.1))

    go : (b : Bool) → f y ≡ b → (elem x (only f l) ≡ true → (f x ≡ true) × (elem x l ≡ true)) → elem x (cond b (y ∷ only f l) (only f l)) ≡ true → (f x ≡ true) × ((eqb x y || elem x l) ≡ true)
    go true t ih e = or_cases (eqb x y) (elem x (only f l)) e (λ i. (rw (eqb-true x y i) t, rw i)) (λ i. later (ih i))
    go false t ih e = later (ih e)

pub elem-those : (f : ℕ → Bool) (x n : ℕ) → elem x (those f n) ≡ true → (f x ≡ true) × (x < n)
unfolding elem those
elem-those f x zero e = no_both false e refl
elem-those f x (suc n) e = go (f n) refl (elem-those f x n) e
  where
    go : (b : Bool) → f n ≡ b → (elem x (those f n) ≡ true → (f x ≡ true) × (x < n)) → elem x (cond b (n ∷ those f n) (those f n)) ≡ true → (f x ≡ true) × (x < suc n)
    go true t ih e = or_cases (eqb x n) (elem x (those f n)) e (λ i. let z : x ≡ n = eqb-true x n i in (rw z t, omega arith)) (λ i. let k = ih i in (k.0, omega arith))
    go false t ih e = let k = ih e in (k.0, omega arith)

pub those-elem : (f : ℕ → Bool) (x n : ℕ) → f x ≡ true → x < n → elem x (those f n) ≡ true
unfolding elem those
those-elem f x zero t i = absurd (omega arith)
those-elem f x (suc n) t i = by_bool (eqb x n) here (there (λ j. those-elem f x n t j))
  where
    here : eqb x n ≡ true → elem x (cond (f n) (n ∷ those f n) (those f n)) ≡ true
    here e = let z : x ≡ n = eqb-true x n e in let t' : f n ≡ true = rw z at t in rw (t', e)

    there : (x < n → elem x (those f n) ≡ true) → eqb x n ≡ false → elem x (cond (f n) (n ∷ those f n) (those f n)) ≡ true
    there ih e = let ne : x ≡ n → ⊥ = eqb-false x n e in let k : elem x (those f n) ≡ true = ih (omega arith) in by_bool (f n) (λ j. rw (j, e) k) (λ j. rw j k)

pub elem-front : (f : ℕ → Bool) (x : ℕ) (l : List ℕ) → elem x (front f l) ≡ true → (f x ≡ true) × (elem x l ≡ true)
unfolding elem front
elem-front f x [] e = no_both false e refl
elem-front f x (y ∷ l) e = go (f y) refl (elem-front f x l) e
  where
    go : (b : Bool) → f y ≡ b → (elem x (front f l) ≡ true → (f x ≡ true) × (elem x l ≡ true)) → elem x (cond b (y ∷ front f l) []) ≡ true → (f x ≡ true) × ((eqb x y || elem x l) ≡ true)
    go true t ih e = or_cases (eqb x y) (elem x (front f l)) e (λ i. (rw (eqb-true x y i) t, rw i)) (λ i. let k = ih i in (k.0, by_bool (eqb x y) (λ m. rw m) (λ m. rw m k.1)))
    go false t ih e = no_both false e refl

pub elem-find : (f : ℕ → Bool) (x : ℕ) (l : List ℕ) → find f l ≡ some x → (f x ≡ true) × (elem x l ≡ true)
unfolding elem find
elem-find f x [] e = no_none none refl e
elem-find f x (y ∷ l) e = go (f y) refl (elem-find f x l) e
  where
    go : (b : Bool) → f y ≡ b → (find f l ≡ some x → (f x ≡ true) × (elem x l ≡ true)) → cond b (some y) (find f l) ≡ some x → (f x ≡ true) × ((eqb x y || elem x l) ≡ true)
    go true t ih e = let z : y ≡ x = cc in (rw z at t, rw (eq-eqb x y (sym z)))
    go false t ih e = let k = ih e in (k.0, by_bool (eqb x y) (λ m. rw m) (λ m. rw m k.1))

pub any_false : (f : ℕ → Bool) (x : ℕ) (l : List ℕ) → any f l ≡ false → elem x l ≡ true → f x ≡ false
unfolding any elem
any_false f x [] e m = no_both false m refl
any_false f x (y ∷ l) e m = elem_cases x y l m (λ z. rw z (or_left (f y) (any f l) e)) (λ k. any_false f x l (or_right (f y) (any f l) e) k)

pub elem_rev : (x : ℕ) (l : List ℕ) → elem x (reverse l) ≡ true → elem x l ≡ true
elem_rev x l e = sym (elem-reverse x l) ∙ e

-- ---- parts and sums ----

-- what a list was cut at: the members before the first that passes, and it
pub front-find : (f : ℕ → Bool) (x : ℕ) (l : List ℕ) → find f l ≡ some x → (r : List ℕ) × (l ≡ front (λ p. not (f p)) l ++ (x ∷ r))
unfolding front find
front-find f x [] e = no_none none refl e
front-find f x (y ∷ l) e = go (f y) refl (front-find f x l) e
  where
    go : (b : Bool) → f y ≡ b → (find f l ≡ some x → (r : List ℕ) × (l ≡ front (λ p. not (f p)) l ++ (x ∷ r))) → cond b (some y) (find f l) ≡ some x → (r : List ℕ) × (y ∷ l ≡ cond (not b) (y ∷ front (λ p. not (f p)) l) [] ++ (x ∷ r))
    go true t ih e = let z : y ≡ x = cc in (l, ap (λ k. k ∷ l) z)
    go false t ih e = let k = ih e in (k.0, ap (λ s. y ∷ s) k.1)

pub front_part : (f : ℕ → Bool) (l : List ℕ) → (r : List ℕ) × (l ≡ front f l ++ r)
unfolding front
front_part f [] = ([], refl)
front_part f (y ∷ l) = go (f y) (front_part f l)
  where
    go : (b : Bool) → (r : List ℕ) × (l ≡ front f l ++ r) → (r : List ℕ) × (y ∷ l ≡ cond b (y ∷ front f l) [] ++ r)
    go true k = (k.0, ap (λ s. y ∷ s) k.1)
    go false k = (y ∷ l, refl)

pub total_append : (f : ℕ → ℕ) (k l : List ℕ) → total f (k ++ l) ≡ total f k + total f l
unfolding total
total_append f [] l = omega arith
total_append f (x ∷ k) l = omega (arith, total_append f k l)

pub total-reverse : (f : ℕ → ℕ) (l : List ℕ) → total f (reverse l) ≡ total f l
unfolding total
total-reverse f [] = refl
total-reverse f (x ∷ l) = rw (reverse-cons x l, total_append f (reverse l) (x ∷ [])) (omega (arith, total-reverse f l))

-- the last of a list is the first of it reversed
pub reverse-last : (x : ℕ) (l : List ℕ) → (r : List ℕ) × (reverse (x ∷ l) ≡ last x l ∷ r)
unfolding last
reverse-last x [] = ([], refl)
reverse-last x (y ∷ l) = let k : (r : List ℕ) × (reverse (y ∷ l) ≡ last y l ∷ r) = reverse-last y l in (k.0 ++ (x ∷ []), reverse-cons x (y ∷ l) ∙ ap (λ s. s ++ (x ∷ [])) k.1)

-- ---- the pigeonhole ----

-- each member stands once
unfoldable pub Once : List ℕ → Type 0
Once [] = Unit {0}
Once (x ∷ l) = (elem x l ≡ false) × Once l

sum_add : (f g k : ℕ → ℕ) → ((p : ℕ) → k p ≡ f p + g p) → (n : ℕ) → sum k n ≡ sum f n + sum g n
unfolding sum
sum_add f g k h zero = refl
sum_add f g k h (suc n) = omega (arith, h n, sum_add f g k h n)

sum_none : (f : ℕ → ℕ) → (n : ℕ) → ((p : ℕ) → p < n → f p ≡ 0) → sum f n ≡ 0
unfolding sum
sum_none f zero h = refl
sum_none f (suc n) h = omega (arith, h n (omega arith), sum_none f n (λ p i. h p (omega arith)))

count_one : (x n : ℕ) → x < n → count (λ p. eqb p x) n ≡ 1
unfolding sum
count_one x zero i = absurd (omega arith)
count_one x (suc n) i = by_bool (eqb n x) (λ e. let z : n ≡ x = eqb-true n x e in rw e (omega (arith, sum_none (λ p. cond (eqb p x) 1 0) n (λ p j. rw (ne_eqb p x (λ y. let y : p ≡ x = y in omega arith)))))) (λ e. let ne : n ≡ x → ⊥ = eqb-false n x e in rw e (omega (arith, count_one x n (omega arith))))

-- a list of places below n, each once, is as long as the places that are in it are many
pub count-elem : (l : List ℕ) (n : ℕ) → Once l → ((x : ℕ) → elem x l ≡ true → x < n) → count (λ p. elem p l) n ≡ length l
unfolding Once elem
count-elem [] n o k = sum_none (λ p. 0) n (λ p i. refl)
count-elem (x ∷ l) n o k = rest (count-elem l n o.1 (λ y e. k y (by_bool (eqb y x) (λ m. rw m) (λ m. rw m e))))
  where
    parts : (p : ℕ) → ◌≡◌ {A = ℕ} (cond (eqb p x || elem p l) 1 0) (cond (eqb p x) 1 0 + cond (elem p l) 1 0)
    parts p = by_bool (eqb p x) (λ e. let z : elem p l ≡ false = rw (eqb-true p x e) o.0 in rw (e, z)) (λ e. rw e (omega arith))

    rest : count (λ p. elem p l) n ≡ length l → count (λ p. eqb p x || elem p l) n ≡ suc (length l)
    rest ih = omega (arith, sum_add (λ p. cond (eqb p x) 1 0) (λ p. cond (elem p l) 1 0) (λ p. cond (eqb p x || elem p l) 1 0) parts n, count_one x n (k x (rw (eq-eqb x x refl))), ih)

pub count_mono : (f g : ℕ → Bool) (n : ℕ) → ((p : ℕ) → p < n → g p ≡ true → f p ≡ true) → count g n ≤ count f n
unfolding sum
count_mono f g zero h = omega arith
count_mono f g (suc n) h = let ih = count_mono f g n (λ p i. h p (omega arith)) in by_bool (g n) (λ e. rw (e, h n (omega arith) e) (omega arith)) (λ e. rw e (omega arith))

-- as many that pass the one test as the other, and the one tells the other: they are the same
pub count_same : (f g : ℕ → Bool) (n : ℕ) → ((p : ℕ) → p < n → g p ≡ true → f p ≡ true) → count g n ≡ count f n → (p : ℕ) → p < n → f p ≡ true → g p ≡ true
unfolding sum
count_same f g zero h e p i t = absurd (omega arith)
count_same f g (suc n) h e p i t = go (g n) refl (f n) refl e (λ e j. count_same f g n (λ q k. h q (omega arith)) e p j t)
  where
    less : count g n ≤ count f n
    less = count_mono f g n (λ q k. h q (omega arith))

    go : (b : Bool) → g n ≡ b → (c : Bool) → f n ≡ c → (cond b 1 0) + count g n ≡ (cond c 1 0) + count f n → (count g n ≡ count f n → p < n → g p ≡ true) → g p ≡ true
    go true x true y e ih = by_bool (eqb p n) (λ j. rw (eqb-true p n j) x) (λ j. let ne : p ≡ n → ⊥ = eqb-false p n j in ih (omega arith) (omega arith))
    go true x false y e ih = no_both (f n) (h n (omega arith) x) y
    go false x true y e ih = absurd (omega (arith, less))
    go false x false y e ih = by_bool (eqb p n) (λ j. no_both (f n) (rw (eqb-true p n j) at t) y) (λ j. let ne : p ≡ n → ⊥ = eqb-false p n j in ih (omega arith) (omega arith))
