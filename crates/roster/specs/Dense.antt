-- A dense set of places below n, as functions: how many members there are, the i-th of them, and the position of a place among them.
use Rattle.std.specs.Prelude.{Bool, true, ◌&&◌, ◌≡◌, ℕ, ◌≤◌, ◌<◌, eqb, ltb}

-- p stands at its position. Stale and foreign positions are told apart by what stands there, so this has a meaning for any functions.
unfoldable pub inside : ℕ → (ℕ → ℕ) → (ℕ → ℕ) → ℕ → Bool
inside size member position p = ltb (position p) size && eqb (member (position p)) p

pub record Sound (n size : ℕ) (member position : ℕ → ℕ) : Type 0 where
  pub few : size ≤ n
  pub below : (i : ℕ) → i < size → member i < n
  pub stands : (i : ℕ) → i < size → position (member i) ≡ i

-- the i-th members, for i below the size, are the places inside, each once
pub record Lists (n size : ℕ) (member position : ℕ → ℕ) : Type 0 where
  pub sound : (i : ℕ) → i < size → (member i < n) × (inside size member position (member i) ≡ true)
  pub once : (i j : ℕ) → i < size → j < size → member i ≡ member j → i ≡ j
  pub complete : (p : ℕ) → inside size member position p ≡ true → (position p < size) × (member (position p) ≡ p)
