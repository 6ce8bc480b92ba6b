-- An index of a set U of slots by a bucket function B, or by keys K.
use Rattle.std.specs.Prelude.{List, ◌≡◌, ℕ, ◌+◌, ◌<◌}
use Rattle.index.specs.Chain.{In, Chain}
use Rattle.index.specs.Keys.{bucket_of}

-- the chain of bucket b holds the slots of U whose bucket it is (each once: a chain that ends passes no slot twice)
pub record Bucket (m : List ℕ) (s base : ℕ) (B : ℕ → ℕ) (U : ℕ → Type 0) (b : ℕ) : Type 0 where
  pub list : List ℕ
  pub chain : Chain m s base (base + b) list
  pub sound : (q : ℕ) → In q list → U q × (B q ≡ b)
  pub complete : (q : ℕ) → q < s → U q → B q ≡ b → In q list

abbrev pub Index : List ℕ → ℕ → ℕ → (ℕ → ℕ) → (ℕ → Type 0) → Type 0
Index m s base B U = (b : ℕ) → b < s → Bucket m s base B U b

abbrev pub Keyed : List ℕ → ℕ → ℕ → (ℕ → ℕ → ℕ) → (ℕ → Type 0) → Type 0
Keyed m s base K U = Index m s base (λ q. bucket_of s (K q)) U
