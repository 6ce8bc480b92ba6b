-- Laws of sums and counts by place.
use Prim.Native.Nat.{ℕ, zero, suc, ◌+◌, ◌*◌, ◌≤◌, ◌<◌}
use mathlib.Core.Path.{◌≡◌, refl, sym, ap}
use mathlib.Core.Bool.{Bool, true, false, cond}
use native.Mathlib.Omega.{arith}
use lib.Dec.{eqb}
use borrow.Author.Tests.{eqb-true, eqb-false, ne_eqb}
use Rattle.model.specs.Places.{count, sum}
use Rattle.model.proofs.Tools.{by_bool}

-- one place gives up b, and each other gets at most d
pub sum_moves : (f g d : ℕ → ℕ) (n b p : ℕ) → p < n → g p + b ≤ f p → ((q : ℕ) → eqb q p ≡ false → g q ≤ f q + d q) → sum g n + b ≤ sum f n + sum d n
unfolding sum
sum_moves f g d zero b p i h k = absurd (omega arith)
sum_moves f g d (suc n) b p i h k = by_bool (eqb p n) at_top (below (λ j. sum_moves f g d n b p j h k))
  where
    le : (j : ℕ) → j ≤ n → p ≡ n → sum g j ≤ sum f j + sum d j
    le zero l z = omega arith
    le (suc j) l z = omega (arith, le j (omega arith) z, k j (ne_eqb j p (λ y. let y : j ≡ p = y in omega arith)))

    at_top : eqb p n ≡ true → (g n + sum g n) + b ≤ (f n + sum f n) + (d n + sum d n)
    at_top e =
        let z : p ≡ n = eqb-true p n e in
        let h' : g n + b ≤ f n = rw z at h in
        omega (arith, le n (omega arith) z)

    below : (p < n → sum g n + b ≤ sum f n + sum d n) → eqb p n ≡ false → (g n + sum g n) + b ≤ (f n + sum f n) + (d n + sum d n)
    below ih e =
        let ne : p ≡ n → ⊥ = eqb-false p n e in
        omega (arith, ih (omega arith), k n (ne_eqb n p (λ y. ne (sym y))))

pub sum_below : (f : ℕ → ℕ) (n k : ℕ) → ((q : ℕ) → f q ≤ k) → sum f n ≤ n * k
unfolding sum
sum_below f zero k h = omega arith
sum_below f (suc n) k h = omega (arith, sum_below f n k h, h n)

pub sum_none : (f : ℕ → Bool) (n : ℕ) → ((q : ℕ) → q < n → f q ≡ false) → count f n ≡ 0
unfolding sum
sum_none f zero h = refl
sum_none f (suc n) h = let e = h n (omega arith) in rw e (omega (arith, sum_none f n (λ q i. h q (omega arith))))

pub count_below : (f : ℕ → Bool) (n : ℕ) → count f n ≤ n
unfolding sum
count_below f zero = omega arith
count_below f (suc n) = go (f n) (count_below f n)
  where
    go : (b : Bool) → count f n ≤ n → cond b 1 0 + count f n ≤ suc n
    go true ih = omega arith
    go false ih = omega arith

-- of what at most one place passes, there is at most one
pub count_one : (f : ℕ → Bool) (n : ℕ) → ((p q : ℕ) → f p ≡ true → f q ≡ true → p ≡ q) → count f n ≤ 1
unfolding sum
count_one f zero h = omega arith
count_one f (suc n) h = by_bool (f n) (λ e. let z = sum_none f n (λ q i. by_bool (f q) (λ k. absurd (let y : q ≡ n = h q n k e in omega arith)) (λ k. k)) in rw (e, z) (omega arith)) (λ e. rw e (omega (arith, count_one f n h)))

pub sum_plus : (f g h : ℕ → ℕ) (n : ℕ) → ((q : ℕ) → f q ≤ g q + h q) → sum f n ≤ sum g n + sum h n
unfolding sum
sum_plus f g h zero k = omega arith
sum_plus f g h (suc n) k = omega (arith, sum_plus f g h n k, k n)

pub sum_scale : (f g : ℕ → ℕ) (n k : ℕ) → ((q : ℕ) → f q ≤ g q * k) → sum f n ≤ sum g n * k
unfolding sum
sum_scale f g zero k h = omega arith
sum_scale f g (suc n) k h = omega (arith, sum_scale f g n k h, h n)

sum_zero : (n : ℕ) → sum (λ q. 0) n ≡ 0
unfolding sum
sum_zero zero = refl
sum_zero (suc n) = omega (arith, sum_zero n)

-- rows or columns first
pub sum_swap : (f : ℕ → ℕ → ℕ) (k n : ℕ) → sum (λ p. sum (f p) n) k ≤ sum (λ q. sum (λ p. f p q) k) n
unfolding sum
sum_swap f zero n = omega (arith, sum_zero n)
sum_swap f (suc k) n = omega (arith, sum_swap f k n, split n)
  where
    split : (n : ℕ) → sum (f k) n + sum (λ q. sum (λ p. f p q) k) n ≤ sum (λ q. f k q + sum (λ p. f p q) k) n
    split zero = omega arith
    split (suc n) = omega (arith, split n)

-- one place has another number
pub sum_put : (f g : ℕ → ℕ) (n p : ℕ) → p < n → ((q : ℕ) → eqb q p ≡ false → g q ≡ f q) → sum g n + f p ≡ sum f n + g p
unfolding sum
sum_put f g zero p i h = absurd (omega arith)
sum_put f g (suc n) p i h = by_bool (eqb p n) at_top (below (λ j. sum_put f g n p j h))
  where
    same : (j : ℕ) → j ≤ n → p ≡ n → sum g j ≡ sum f j
    same zero l z = refl
    same (suc j) l z = let e = h j (ne_eqb j p (λ y. let y : j ≡ p = y in omega arith)) in omega (arith, same j (omega arith) z)

    at_top : eqb p n ≡ true → (g n + sum g n) + f p ≡ (f n + sum f n) + g p
    at_top e =
        let z : p ≡ n = eqb-true p n e in
        let a : f p ≡ f n = ap f z in
        let b : g p ≡ g n = ap g z in
        omega (arith, same n (omega arith) z)

    below : (p < n → sum g n + f p ≡ sum f n + g p) → eqb p n ≡ false → (g n + sum g n) + f p ≡ (f n + sum f n) + g p
    below ih e =
        let ne : p ≡ n → ⊥ = eqb-false p n e in
        let s : g n ≡ f n = h n (ne_eqb n p (λ y. ne (sym y))) in
        omega (arith, ih (omega arith))

-- one place passes or fails another test
pub count_put : (f g : ℕ → Bool) (n p : ℕ) → p < n → ((q : ℕ) → eqb q p ≡ false → g q ≡ f q) → count g n + cond (f p) 1 0 ≡ count f n + cond (g p) 1 0
count_put f g n p i h = sum_put (λ q. cond (f q) 1 0) (λ q. cond (g q) 1 0) n p i (λ q e. ap (λ (t : Bool). cond t 1 0) (h q e))
