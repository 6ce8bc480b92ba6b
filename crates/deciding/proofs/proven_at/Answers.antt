-- `deciding::proven_at` meets its contract.
use mathlib.Core.Path.{ap, ◌∙◌}
use native.Mathlib.Omega.{arith}
use Rattle.model.specs.Standing.{canonical, proofs_ok}
use Rattle.deciding.proofs.PlaceLaws.{value_in}
use Rattle.deciding.proofs.proven_at.Goals as goal

pub returns : goal.returns
returns c = let a = c.args in c.proven.ensures ∙ ap proofs_ok (c.read.ensures ∙ value_in a.mem.now a.n a.p (omega arith) canonical)
