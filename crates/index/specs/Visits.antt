-- A loop over the slots of a set that have a key.
use Rattle.std.specs.Prelude.{◌⊎◌, List, ◌≡◌, ℕ, ◌+◌, ◌≤◌, ◌<◌, length}
use Rattle.index.specs.Chain.{In, Distinct, Chain}

-- the list is the slots of U that have the key k, each once
pub record Members (s : ℕ) (U : ℕ → Type 0) (K : ℕ → ℕ → ℕ) (k : ℕ → ℕ) (l : List ℕ) : Type 0 where
  pub distinct : Distinct l
  pub few : length l ≤ s
  pub sound : (q : ℕ) → In q l → (q < s) × U q × (K q ≡ k)
  pub complete : (q : ℕ) → q < s → U q → K q ≡ k → In q l

-- a loop over them has visited `seen` and stands at x, the next to visit, or at s, where there is none. `rest` is what follows x in its
-- chain, slots with other keys among it
pub record Visits (m : List ℕ) (s base : ℕ) (U : ℕ → Type 0) (K : ℕ → ℕ → ℕ) (k : ℕ → ℕ) (x : ℕ) (seen : List ℕ) : Type 0 where
  pub range : x ≤ s
  pub here : x < s → U x × (K x ≡ k) × (In x seen → ⊥)
  pub rest : List ℕ
  pub chain : x < s → Chain m s base (base + s + x) rest
  pub ahead : (q : ℕ) → In q rest → (q < s) × U q × (In q seen → ⊥)
  pub distinct : Distinct seen
  pub sound : (q : ℕ) → In q seen → (q < s) × U q × (K q ≡ k)
  pub complete : (q : ℕ) → q < s → U q → K q ≡ k → In q seen ⊎ ((x < s) × ((q ≡ x) ⊎ In q rest))
