-- Tools: searches, choices, sums and tables over places, which are counted from 0.
use Rattle.std.specs.Prelude.{ℕ, zero, suc, ◌+◌, Bool, true, false, ◌&&◌, ◌||◌, eqb, ltb}
use Rattle.std.proofs.Math.Option.{Option, none, some}
use Rattle.amount.specs.Choose.{◌if◌else◌}

-- the first of two answers that is one
abbrev pub or_else : {A : Type 0} → Option A → Option A → Option A
or_else none b = b
or_else (some a) b = some a

abbrev pub is_some : {A : Type 0} → Option A → Bool
is_some none = false
is_some (some a) = true

-- the lowest place below n that passes the test
unfoldable pub first : (ℕ → Bool) → ℕ → Option ℕ
first f zero = none
first f (suc n) = or_else (first f n) (some n if f n else none)

-- of the places below n that pass the test, the one that goes before the others
abbrev pub choose : (ℕ → ℕ → Bool) → ℕ → Option ℕ → Option ℕ
choose less p none = some p
choose less p (some q) = some p if less p q else some q

unfoldable pub pick : (ℕ → Bool) → (ℕ → ℕ → Bool) → ℕ → Option ℕ
pick f less zero = none
pick f less (suc n) = choose less n (pick f less n) if f n else pick f less n

-- an order by one number, and where it is the same by the rest
abbrev pub then_by : ℕ → ℕ → Bool → Bool
then_by a b rest = ltb a b || eqb a b && rest

-- the sum of a number for each place below n
unfoldable pub sum : (ℕ → ℕ) → ℕ → ℕ
sum f zero = 0
sum f (suc n) = f n + sum f n

-- how many places below n pass the test
abbrev pub count : (ℕ → Bool) → ℕ → ℕ
count f n = sum (λ p. 1 if f p else 0) n

-- what is kept by place, with another value at p
abbrev pub put_at : {A : Type 0} → (ℕ → A) → ℕ → A → ℕ → A
put_at f p a q = a if eqb q p else f q
