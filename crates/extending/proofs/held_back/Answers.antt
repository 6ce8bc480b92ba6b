-- `extending::held_back` meets its contract.
use native.Mathlib.Omega.{arith}
use Rattle.walks.specs.Asking.{floor_means}
use Rattle.extending.proofs.PieceLaws.{floor_proven}
use Rattle.extending.proofs.held_back.Goals as goal

pub returns-then-proven_at : goal.returns-then-proven_at
returns-then-proven_at c u v =
    let a = c.args in
    floor_proven a.mem.now a.n a.local a.f (omega arith) (omega arith) (floor_means a.floor) _ _ _ c.proven_at.ensures c.if-proven_at.true c.below.ensures u v
