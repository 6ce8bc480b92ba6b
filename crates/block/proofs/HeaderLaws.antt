-- The tests by which two headers are the same, each as it turned out.
use mathlib.Core.Bool.{Bool, ◌&&◌}
use mathlib.Core.Path.{◌≡◌}
use lib.Dec.{eqb}
use Rattle.amount.specs.Amounts.{same_amount}
use Rattle.model.specs.Record.{Header, same_header}

pub header_tests : (x y : Header) {p q r s t u : Bool} → eqb x.hash y.hash ≡ p → eqb x.index y.index ≡ q → eqb x.epoch y.epoch ≡ r → eqb x.prev y.prev ≡ s → same_amount x.target y.target ≡ t → same_amount x.actual y.actual ≡ u → (p && q && r && s && t && u) ≡ same_header x y
header_tests x y e₁ e₂ e₃ e₄ e₅ e₆ = rw (e₁, e₂, e₃, e₄, e₅, e₆)
