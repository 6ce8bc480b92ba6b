-- `deciding::covers_at` meets its contract.
use native.Mathlib.Omega.{arith}
use Rattle.deciding.proofs.PlaceLaws.{covers_is}
use Rattle.deciding.proofs.covers_at.Goals as goal

pub returns : goal.returns
returns c = λ u. let a = c.args in covers_is a.mem.now a.n a.p (omega arith) _ _ c.covers.ensures u
