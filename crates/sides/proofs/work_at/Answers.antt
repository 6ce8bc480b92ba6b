-- `sides::work_at` meets its contract.
use native.Mathlib.Omega.{arith}
use Rattle.sides.proofs.SideLaws.{work_canonical, work_winner}
use Rattle.sides.proofs.work_at.Goals as goal

pub returns-then-canonical : goal.returns-then-canonical
returns-then-canonical c = let a = c.args in work_canonical a.mem.now a.n a.p (omega arith) a.canonical c.if-canonical.true _ _ c.read.ensures c.work_of.ensures

pub returns : goal.returns
returns c = let a = c.args in work_winner a.mem.now a.n a.p (omega arith) a.canonical c.if-canonical.false _ _ c.read-2.ensures c.work_of-2.ensures
