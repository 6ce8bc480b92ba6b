-- `extending::refuse` meets its contract.
use native.Mathlib.Omega.{arith}
use Rattle.extending.proofs.PieceLaws.{refuse_stale, refuse_kept}
use Rattle.extending.proofs.refuse.Goals as goal

pub returns-then-stale : goal.returns-then-stale
returns-then-stale c =
    let a = c.args in
    refuse_stale a.mem.now a.n a.local a.leaf a.bottom a.per_epoch (omega arith) (omega arith) _ c.stale.ensures c.if-stale.true _ c.orphan_stale.ensures

pub returns-else-stale : goal.returns-else-stale
returns-else-stale c =
    let a = c.args in
    refuse_kept a.mem.now a.n a.local a.leaf a.bottom a.per_epoch (omega arith) (omega arith) _ c.stale.ensures c.if-stale.false
