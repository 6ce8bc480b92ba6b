-- `rows::open` meets its contract: five stores, one after another.
use Rattle.rows.proofs.RowLaws.{open_done}
use mathlib.Core.Path.{refl}
use lib.ListN.{length-set}
use native.Mathlib.Omega.{arith}
use Rattle.rows.proofs.open.Goals as goal

pub bounds-mem-at-2 : goal.bounds-mem-at-2
bounds-mem-at-2 c = simp length-set (omega arith)

pub bounds-mem-at-3 : goal.bounds-mem-at-3
bounds-mem-at-3 c = simp length-set (omega arith)

pub bounds-mem-at-4 : goal.bounds-mem-at-4
bounds-mem-at-4 c = simp length-set (omega arith)

pub bounds-mem-at-5 : goal.bounds-mem-at-5
bounds-mem-at-5 c = simp length-set (omega arith)

pub returns : goal.returns
returns c = open_done _ _ _ _ _ _ _ (omega arith) (record { now_is = refl }) (record { now_is = refl }) (record { now_is = refl }) (record { now_is = refl }) (record { now_is = refl })
