-- `sides::safe_at` meets its contract.
use native.Mathlib.Omega.{arith}
use Rattle.sides.proofs.BlockLaws.{covers_is, safe_covers}
use Rattle.sides.proofs.safe_at.Goals as goal

pub returns-else-not-covered : goal.returns-else-not-covered
returns-else-not-covered c u =
    let a = c.args in
    safe_covers a.covered _ _ (c.if-not-covered.false) (covers_is a.mem.now a.n a.p (omega arith) u a.blocks _ c.covers.ensures)
