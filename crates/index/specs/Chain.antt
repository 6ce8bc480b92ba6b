-- Chains of slots in a memory of words. An index over s slots has three columns of s words at `base`: heads at base + b, links at
-- base + s + x, and back links at base + 2 * s + x. A link is a slot, or a number from s on, which ends the chain; a back link is the
-- ADDRESS of the word that leads to its slot, so that a head and a link are one case.
use Rattle.std.specs.Prelude.{◌≡◌, ◌⊎◌, List, [], ◌∷◌, ℕ, ◌+◌, ◌*◌, ◌≤◌, ◌<◌}
use Rattle.memory.specs.Words.{word}

abbrev pub In : ℕ → List ℕ → Type 0
In x [] = ⊥
In x (y ∷ l) = (x ≡ y) ⊎ In x l

abbrev pub Distinct : List ℕ → Type 0
Distinct [] = Unit {0}
Distinct (y ∷ l) = (In y l → ⊥) × Distinct l

-- the slots of the chain to whose first the word at `at` leads
abbrev pub Chain : List ℕ → ℕ → ℕ → ℕ → List ℕ → Type 0
Chain m s base at [] = s ≤ word m at
Chain m s base at (y ∷ l) = (word m at ≡ y) × (y < s) × (word m (base + 2 * s + y) ≡ at) × Chain m s base (base + s + y) l
