-- Document 01, "The two plans": what a plan is asked with: the floor, if one is given, and blocks per epoch, over the tree that a memory stands for.
use Rattle.std.specs.Prelude.{List, ◌≡◌, ℕ}
use Rattle.std.proofs.Math.Option.{Option, none, some}
use Rattle.model.specs.Walks.{Asked}
use Rattle.state.specs.View.{view_at}
use Rattle.walks.specs.declared.Floor.{Floor}
use Rattle.walks.specs.declared.Floor.TheVariants.{None, At}

abbrev pub floor_means : Floor → Option ℕ
floor_means None = none
floor_means (At i) = some i

-- a plan is asked of the tree that the memory stands for, whatever the clock
pub record Asks (a : Asked) (m : List ℕ) (n : ℕ) (floor : Option ℕ) (per : ℕ) : Type 0 where
  pub holdings : a.holdings ≡ (view_at m n).holdings
  pub values : a.values ≡ (view_at m n).values
  pub floor_is : a.floor ≡ floor
  pub per_is : a.per_epoch ≡ per
