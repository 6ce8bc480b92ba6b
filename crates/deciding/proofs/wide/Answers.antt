-- `deciding::wide` meets its contract.
use native.Mathlib.Omega.{arith}
use Rattle.deciding.proofs.PlaceLaws.{wide_none, wide_some}
use Rattle.deciding.proofs.wide.Goals as goal

pub returns-then-count-eq0 : goal.returns-then-count-eq0
returns-then-count-eq0 c = λ s u. let a = c.args in wide_none a.mem.now a.n a.local (omega arith) s u c.if-count-eq0.true

pub returns : goal.returns
returns c = λ s u. let a = c.args in wide_some a.mem.now a.n a.local (omega arith) s u c.if-count-eq0.false
