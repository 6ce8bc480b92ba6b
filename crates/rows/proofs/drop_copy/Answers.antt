-- `rows::drop_copy` meets its contract.
use Rattle.rows.proofs.RowLaws.{drop_done}
use mathlib.Core.Path.{refl}
use native.Mathlib.Omega.{arith}
use Rattle.rows.proofs.drop_copy.Goals as goal

pub returns : goal.returns
returns c = drop_done _ _ _ (omega arith) (record { now_is = refl })
