-- `weighing::side` meets its contract.
use mathlib.Core.Path.{◌∙◌}
use native.Mathlib.Omega.{arith}
use Rattle.model.specs.Standing.{winner, canonical}
use Rattle.deciding.proofs.PlaceLaws.{value_in}
use Rattle.weighing.proofs.SideLaws.{side_is}
use Rattle.weighing.proofs.side.Goals as goal

pub returns-then-canonical : goal.returns-then-canonical
returns-then-canonical c = λ u x e g. let a = c.args in let w = c.if-canonical.true in rw w (side_is a.mem.now a.n a.p (omega arith) canonical _ _ _ c.read_header-h.ensures c.scored.ensures (c.read.ensures ∙ value_in a.mem.now a.n a.p (omega arith) canonical) u x e g)

pub returns : goal.returns
returns c = λ u x e g. let a = c.args in let w = c.if-canonical.false in rw w (side_is a.mem.now a.n a.p (omega arith) winner _ _ _ c.read_header-h.ensures c.scored-2.ensures (c.read-2.ensures ∙ value_in a.mem.now a.n a.p (omega arith) winner) u x e g)
