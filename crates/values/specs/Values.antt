-- Document 01, "Standing in the tree": a linked value, as the code holds it and as three words of a row hold it.
use Rattle.std.specs.Prelude.{Bool, true, false, List, ◌≡◌, ℕ, ◌+◌, length}
use Rattle.amount.specs.Value.{value}
use Rattle.model.specs.Standing as model
use Rattle.memory.specs.Words.{seg, Only}
use Rattle.rows.specs.Rows.{value_of}
use Rattle.values.specs.declared.Value.{Value}
use Rattle.values.specs.declared.Value.TheVariants.{None, Linked}

abbrev pub value_means : Value → model.Value
value_means None = model.unlinked
value_means (Linked w ok) = model.linked (value w) ok

-- which of the two spines is meant
abbrev pub spine_of : Bool → model.Spine
spine_of true = model.canonical
spine_of false = model.winner

-- the value stands in the three words from `at` on
pub record Written (m m' : List ℕ) (at : ℕ) (v : Value) : Type 0 where
  pub is : value_of (seg m' at 3) ≡ value_means v
  pub only : Only m m' at (at + 3)
  pub long : length m' ≡ length m
