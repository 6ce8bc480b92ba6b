-- Tools: lists of places or of hashes.
use Rattle.std.specs.Prelude.{ℕ, zero, suc, ◌+◌, Bool, true, false, ◌&&◌, ◌||◌, List, [], ◌∷◌, eqb}
use Rattle.std.proofs.Math.Option.{Option, none, some}
use Rattle.amount.specs.Choose.{◌if◌else◌}

-- is a member
unfoldable pub elem : ℕ → List ℕ → Bool
elem x [] = false
elem x (y ∷ l) = eqb x y || elem x l

-- the list without x
unfoldable pub without : ℕ → List ℕ → List ℕ
without x [] = []
without x (y ∷ l) = without x l if eqb x y else y ∷ without x l

-- each number once, where it stands first
unfoldable pub distinct : List ℕ → List ℕ
distinct [] = []
distinct (x ∷ l) = x ∷ without x (distinct l)

-- the places below n that pass the test, and the members that do
unfoldable pub those : (ℕ → Bool) → ℕ → List ℕ
those f zero = []
those f (suc n) = n ∷ those f n if f n else those f n

unfoldable pub only : (ℕ → Bool) → List ℕ → List ℕ
only f [] = []
only f (x ∷ l) = x ∷ only f l if f x else only f l

-- every member passes; some member does
unfoldable pub all : (ℕ → Bool) → List ℕ → Bool
all f [] = true
all f (x ∷ l) = f x && all f l

unfoldable pub any : (ℕ → Bool) → List ℕ → Bool
any f [] = false
any f (x ∷ l) = f x || any f l

-- the longest front whose every member passes; the first member that passes
unfoldable pub front : (ℕ → Bool) → List ℕ → List ℕ
front f [] = []
front f (x ∷ l) = x ∷ front f l if f x else []

unfoldable pub find : (ℕ → Bool) → List ℕ → Option ℕ
find f [] = none
find f (x ∷ l) = some x if f x else find f l

-- the last member of x and l
unfoldable pub last : ℕ → List ℕ → ℕ
last x [] = x
last x (y ∷ l) = last y l

unfoldable pub total : (ℕ → ℕ) → List ℕ → ℕ
total f [] = 0
total f (x ∷ l) = f x + total f l

unfoldable pub each : {A : Type 0} → (ℕ → A) → List ℕ → List A
each f [] = []
each f (x ∷ l) = f x ∷ each f l

abbrev pub is_empty : List ℕ → Bool
is_empty [] = true
is_empty (x ∷ l) = false

-- the list in the order of `less`
unfoldable pub put_in : (ℕ → ℕ → Bool) → ℕ → List ℕ → List ℕ
put_in less x [] = x ∷ []
put_in less x (y ∷ l) = x ∷ y ∷ l if less x y else y ∷ put_in less x l

unfoldable pub sorted : (ℕ → ℕ → Bool) → List ℕ → List ℕ
sorted less [] = []
sorted less (x ∷ l) = put_in less x (sorted less l)
