-- What the functions that write leave, word by word. Nothing here supposes that the memory holds an index: the frames hold of any.
use Rattle.std.specs.Prelude.{List, ◌≡◌, ℕ, ◌+◌, ◌*◌, ◌≤◌, ◌<◌, length}
use Rattle.memory.specs.Words.{word, Only}

pub record Cleared (m m' : List ℕ) (s base : ℕ) : Type 0 where
  pub only : Only m m' base (base + 3 * s)
  pub long : length m' ≡ length m
  pub ends : (b : ℕ) → b < s → s ≤ word m' (base + b)

-- slot x stands before what the head of bucket b led to
pub record Linked (m m' : List ℕ) (s base b x : ℕ) : Type 0 where
  pub only : Only m m' base (base + 3 * s)
  pub long : length m' ≡ length m
  pub head : word m' (base + b) ≡ x
  pub on : word m' (base + s + x) ≡ word m (base + b)
  pub back : (word m (base + b) ≡ x → ⊥) → word m' (base + 2 * s + x) ≡ base + b
  pub back_on : word m (base + b) < s → word m' (base + 2 * s + word m (base + b)) ≡ base + s + x
  pub others : (i : ℕ) → (i ≡ base + b → ⊥) → (i ≡ base + s + x → ⊥) → (i ≡ base + 2 * s + x → ⊥)
      → (word m (base + b) < s → i ≡ base + 2 * s + word m (base + b) → ⊥) → word m' i ≡ word m i

-- the word that led to slot x leads to what followed x
pub record Cut (m m' : List ℕ) (s base x : ℕ) : Type 0 where
  pub on : word m' (word m (base + 2 * s + x)) ≡ word m (base + s + x)
  pub back_on : word m (base + s + x) < s → word m' (base + 2 * s + word m (base + s + x)) ≡ word m (base + 2 * s + x)
  pub others : (i : ℕ) → (i ≡ word m (base + 2 * s + x) → ⊥) → (word m (base + s + x) < s → i ≡ base + 2 * s + word m (base + s + x) → ⊥)
      → word m' i ≡ word m i

-- slot x is cut out, where its back link is the address of a head or a link of this index
pub record Unlinked (m m' : List ℕ) (s base x : ℕ) : Type 0 where
  pub only : Only m m' base (base + 3 * s)
  pub long : length m' ≡ length m
  pub cut : base ≤ word m (base + 2 * s + x) → word m (base + 2 * s + x) < base + 2 * s → Cut m m' s base x
