-- `a if test else b`, the form in which definitions choose between two answers.
use Rattle.std.specs.Prelude.{Bool, cond}

infixr 5 ◌if◌else◌
abbrev pub ◌if◌else◌ : {A : Type 0} → A → Bool → A → A
◌if◌else◌ a test b = cond test a b
