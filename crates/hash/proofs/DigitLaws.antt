-- Laws of rows of digits, over any base.
use Prim.Native.Nat.{ℕ, zero, suc, ◌+◌, ◌*◌, ◌/◌, ◌%◌, ◌^◌, ◌<◌, ◌≤◌}
use mathlib.Core.Bool.{Bool, true, false, ◌&&◌, ◌||◌}
use mathlib.Core.List.{List, [], ◌∷◌, ◌++◌}
use mathlib.Core.Path.{◌≡◌, refl, sym, ◌∙◌, ap}
use native.Mathlib.Nat.{add-mul, mul-one, pow-zero, mul_assoc, pow-suc, pow-succ', mul-le-mul_right, div-add-mod', div-lt_iff_lt-mul, mul-add-div_right, mul-add-mod_self_right, div-eq_of_lt, mod-eq_of_lt, le_of_lt, lt_of_lt_of_le}
use native.Mathlib.Numerals.{unary_clauses}
use native.Mathlib.Omega.{arith}
use borrow.Author.Tests.{ltb-true, ltb-false, eqb-true, eqb-false, lt-ltb, le-ltb, eq-eqb, ne_eqb}
use lib.Dec.{eqb, ltb}
use lib.ListN.{length}
use Rattle.hash.specs.Digits.{number_after, digits, Below, before, alike}

-- ---- numbers ----

regroup : (n base d P x : ℕ) → (n * base + d) * P + x ≡ n * (base * P) + (d * P + x)
regroup n base d P x = rw (add-mul, mul_assoc) (omega arith)

-- some digits more are so many powers of the base more
pub shift : (base n : ℕ) (ds : List ℕ) → number_after base n ds ≡ n * base ^ length ds + number_after base 0 ds
shift base n [] = sym (simp (unary_clauses, mul-one))
shift base n (d ∷ ds) = shift base (n * base + d) ds ∙ (let z : 0 * base + d ≡ d = omega arith in rw (z, shift base d ds, pow-succ') (regroup n base d (base ^ length ds) (number_after base 0 ds)))

-- a row in front of another
pub number_append : (base n : ℕ) (ds es : List ℕ) → number_after base n (ds ++ es) ≡ number_after base (number_after base n ds) es
number_append base n [] es = refl
number_append base n (d ∷ ds) es = number_append base (n * base + d) ds es

-- a number is below the power of the base that has a digit more
pub number_below : (base n : ℕ) (ds : List ℕ) → Below base ds → number_after base n ds < (n + 1) * base ^ length ds
number_below base n [] w = rw pow-zero (omega arith)
number_below base n (d ∷ ds) w =
    let step : (n * base + d + 1) * base ^ length ds ≤ (n + 1) * base * base ^ length ds = mul-le-mul_right (base ^ length ds) (rw add-mul (let l = w.0 in omega arith)) in
    rw (pow-succ', ← mul_assoc) (lt_of_lt_of_le (number_below base (n * base + d) ds w.1) step)

-- the digits of a number have that number
pub number_digits : (base count n : ℕ) (ds : List ℕ) → 0 < base → n < base ^ count → number_after base 0 (digits base count n ds) ≡ number_after base n ds
unfolding digits
number_digits base zero n ds b h = let l : n < 1 = rw pow-zero at h in let z : n ≡ 0 = omega arith in rw z
number_digits base (suc count) n ds b h =
    let l : n / base < base ^ count = (div-lt_iff_lt-mul b).1 (rw pow-suc at h) in
    number_digits base count (n / base) (n % base ∷ ds) b l ∙ rw (div-add-mod' n base)

-- and a number's digits are the row that it was made of
pub digits_number : (base n count : ℕ) (ds es : List ℕ) → 0 < base → Below base ds → digits base (length ds + count) (number_after base n ds) es ≡ digits base count n (ds ++ es)
unfolding digits
digits_number base n count [] es b w = let e : 0 + count ≡ count = omega arith in ap (λ (k : ℕ). digits base k n es) e
digits_number base n count (d ∷ ds) es b w =
    let e : length (d ∷ ds) + count ≡ length ds + suc count = omega arith in
    let q : (n * base + d) / base ≡ n = mul-add-div_right b n d ∙ omega (arith, div-eq_of_lt w.0) in
    let r : (n * base + d) % base ≡ d = mul-add-mod_self_right n base d ∙ mod-eq_of_lt w.0 in
    rw e (digits_number base (n * base + d) (suc count) ds es b w.1 ∙ rw (q, r))

-- the digits of a number whose last ones are those of y
pub digits_split : (base j k x y : ℕ) (ds : List ℕ) → 0 < base → y < base ^ j → digits base (j + k) (x * base ^ j + y) ds ≡ digits base k x (digits base j y ds)
unfolding digits
digits_split base zero k x y ds b h =
    let l : y < 1 = rw pow-zero at h in
    let e : 0 + k ≡ k = omega arith in
    let z : x * 1 + y ≡ x = omega arith in
    rw (pow-zero, e, z)
digits_split base (suc j) k x y ds b h =
    let n : x * base ^ suc j + y ≡ x * base ^ j * base + y = rw (pow-suc, mul_assoc) in
    let q : (x * base ^ suc j + y) / base ≡ x * base ^ j + y / base = ap (λ (m : ℕ). m / base) n ∙ mul-add-div_right b (x * base ^ j) y in
    let r : (x * base ^ suc j + y) % base ≡ y % base = ap (λ (m : ℕ). m % base) n ∙ mul-add-mod_self_right (x * base ^ j) base y in
    let e : suc j + k ≡ suc (j + k) = omega arith in
    let l : y / base < base ^ j = (div-lt_iff_lt-mul b).1 (rw pow-suc at h) in
    ap (λ (m : ℕ). digits base m (x * base ^ suc j + y) ds) e ∙
    ap₂ q r ∙ digits_split base j k x (y / base) (y % base ∷ ds) b l
  where
    ap₂ : {m m' d d' : ℕ} → m ≡ m' → d ≡ d' → digits base (j + k) m (d ∷ ds) ≡ digits base (j + k) m' (d' ∷ ds)
    ap₂ p q = rw (p, q)

pub digits_append : (base k n : ℕ) (xs ys : List ℕ) → digits base k n (xs ++ ys) ≡ digits base k n xs ++ ys
unfolding digits
digits_append base zero n xs ys = refl
digits_append base (suc k) n xs ys = digits_append base k (n / base) (n % base ∷ xs) ys

pub length_digits : (base k n : ℕ) (ds : List ℕ) → length (digits base k n ds) ≡ k + length ds
unfolding digits
length_digits base zero n ds = omega arith
length_digits base (suc k) n ds = length_digits base k (n / base) (n % base ∷ ds) ∙ omega arith

-- ---- orders ----

pub by_bool : {P : Type 0} → (t : Bool) → (t ≡ true → P) → (t ≡ false → P) → P
by_bool true p q = p refl
by_bool false p q = q refl

lower : (base m n a b : ℕ) → a < base → m < n → m * base + a < n * base + b
lower base m n a b ha h = omega (arith, mul-le-mul_right {m = m + 1} {n = n} base (omega arith), add-mul m 1 base)

less_rest : (m a b : ℕ) → ltb (m + a) (m + b) ≡ ltb a b
less_rest m a b =
    by_bool (ltb a b) (λ t. rw t (lt-ltb (m + a) (m + b) (omega (arith, ltb-true a b t)))) (λ t. rw t (le-ltb (m + a) (m + b) (omega (arith, ltb-false a b t))))

same_rest : (m a b : ℕ) → eqb (m + a) (m + b) ≡ eqb a b
same_rest m a b =
    by_bool (eqb a b) (λ t. rw t (eq-eqb (m + a) (m + b) (omega (arith, eqb-true a b t)))) (λ t. rw t (ne_eqb (m + a) (m + b) (λ e. eqb-false a b t (omega arith))))

spread : (p q r s t : Bool) → ((p || q && r) || (q && s) && t) ≡ (p || q && (r || s && t))
spread true q r s t = refl
spread false true r s t = refl
spread false false r s t = refl

gather : (q s t : Bool) → ((q && s) && t) ≡ (q && (s && t))
gather true s t = refl
gather false s t = refl

pub no_more : (p q : Bool) → p ≡ (p || q && false)
no_more true q = refl
no_more false true = refl
no_more false false = refl

with_all : (q : Bool) → q ≡ (q && true)
with_all true = refl
with_all false = refl

module _ (base m n a b : ℕ) (ha : a < base) (hb : b < base) where
  less_digit : ltb (m * base + a) (n * base + b) ≡ (ltb m n || eqb m n && ltb a b)
  less_digit =
      by_bool (ltb m n) (λ t. rw t (lt-ltb (m * base + a) (n * base + b) (lower base m n a b ha (ltb-true m n t))))
      (λ t. by_bool (eqb m n)
      (λ u. rw (t, u, eqb-true m n u, less_rest))
      (λ u. rw (t, u) (le-ltb (m * base + a) (n * base + b) (le_of_lt (lower base n m b a hb (omega (arith, ltb-false m n t, eqb-false m n u)))))))

  same_digit : eqb (m * base + a) (n * base + b) ≡ (eqb m n && eqb a b)
  same_digit =
      by_bool (eqb m n) (λ u. rw (u, eqb-true m n u, same_rest))
      (λ u. rw u (ne_eqb (m * base + a) (n * base + b)
      (λ e. by_bool (ltb m n) (λ t. let l = lower base m n a b ha (ltb-true m n t) in omega arith) (λ t. let l = lower base n m b a hb (omega (arith, ltb-false m n t, eqb-false m n u)) in omega arith))))

-- rows of one length, after the digits of m and n: they go as their numbers do, and are the same where their numbers are
pub less_after : (base m n : ℕ) (xs ys : List ℕ) → length xs ≡ length ys → Below base xs → Below base ys → ltb (number_after base m xs) (number_after base n ys) ≡ (ltb m n || eqb m n && before xs ys)
less_after base m n [] [] e p q = no_more (ltb m n) (eqb m n)
less_after base m n [] (y ∷ ys) e p q = absurd (omega arith)
less_after base m n (x ∷ xs) [] e p q = absurd (omega arith)
less_after base m n (x ∷ xs) (y ∷ ys) e p q =
    less_after base (m * base + x) (n * base + y) xs ys (omega arith) p.1 q.1 ∙
    rw (less_digit base m n x y p.0 q.0, same_digit base m n x y p.0 q.0) (spread (ltb m n) (eqb m n) (ltb x y) (eqb x y) (before xs ys))

pub same_after : (base m n : ℕ) (xs ys : List ℕ) → length xs ≡ length ys → Below base xs → Below base ys → eqb (number_after base m xs) (number_after base n ys) ≡ (eqb m n && alike xs ys)
same_after base m n [] [] e p q = with_all (eqb m n)
same_after base m n [] (y ∷ ys) e p q = absurd (omega arith)
same_after base m n (x ∷ xs) [] e p q = absurd (omega arith)
same_after base m n (x ∷ xs) (y ∷ ys) e p q =
    same_after base (m * base + x) (n * base + y) xs ys (omega arith) p.1 q.1 ∙ rw (same_digit base m n x y p.0 q.0) (gather (eqb m n) (eqb x y) (alike xs ys))
