-- What a walk along a chain that looks for a key comes to.
use Rattle.std.specs.Prelude.{◌⊎◌, List, [], ◌∷◌, ◌≡◌, ℕ, ◌≤◌, ◌<◌}
use Rattle.index.specs.Chain.{Chain}

-- r is the first slot of the list that has the key k; s where none has
abbrev pub Sought : ℕ → (ℕ → ℕ → ℕ) → (ℕ → ℕ) → ℕ → List ℕ → Type 0
Sought s K k r [] = r ≡ s
Sought s K k r (y ∷ l) = ((r ≡ y) × (K y ≡ k)) ⊎ ((K y ≡ k → ⊥) × Sought s K k r l)

-- the answer r of a walk from the word at `at`: in any memory it is a slot with the key, or s; from the start of a chain it is the first
pub record Seeks (m : List ℕ) (s base : ℕ) (K : ℕ → ℕ → ℕ) (at : ℕ) (k : ℕ → ℕ) (r : ℕ) : Type 0 where
  pub range : r ≤ s
  pub key : r < s → K r ≡ k
  pub first : (l : List ℕ) → Chain m s base at l → Sought s K k r l
