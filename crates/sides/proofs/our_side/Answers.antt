-- `sides::our_side` meets its contract.
use mathlib.Core.Path.{◌∙◌}
use native.Mathlib.Omega.{arith}
use Rattle.sides.proofs.OursLaws.{ours_unknown, ours_known}
use Rattle.sides.proofs.our_side.Goals as goal

pub returns-then-n-tip : goal.returns-then-n-tip
returns-then-n-tip c s u w k h v st =
    let a = c.args in
    c.side_at.ensures u ∙ ours_unknown a.mem.now a.n a.local a.f (omega arith) u k h v st _ (c.our_tip-tip.ensures s u w k h v st) c.if-n-tip.true

pub returns : goal.returns
returns c s u w k h v st =
    let a = c.args in
    let t = ours_known a.mem.now a.n a.local a.f (omega arith) u k h v st _ (c.our_tip-tip.ensures s u w k h v st) (omega arith) in
    c.side_at-2.ensures t.used ∙ t.is
