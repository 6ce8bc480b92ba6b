-- `sides::side_at` meets its contract.
use native.Mathlib.Omega.{arith}
use Rattle.block.specs.Records.{header_means}
use Rattle.values.specs.Values.{spine_of}
use Rattle.state.specs.View.{values_of}
use Rattle.sides.proofs.SideLaws.{side_unknown, side_known}
use Rattle.sides.proofs.side_at.Goals as goal

pub returns-then-not-sure : goal.returns-then-not-sure
returns-then-not-sure c u =
    let a = c.args in
    side_unknown a.mem.now a.n a.tip (omega arith) u (header_means c.read_header-header.result) c.read_header-header.ensures (values_of a.mem.now a.n (spine_of a.canonical) a.tip) (values_of a.mem.now a.n (spine_of a.canonical) a.f) a.sure (c.if-not-sure.true)

pub returns : goal.returns
returns c u =
    let a = c.args in
    let h = c.read_header-header in
    side_known a.mem.now a.n a.tip (omega arith) u (header_means h.result) h.ensures (values_of a.mem.now a.n (spine_of a.canonical) a.tip) (values_of a.mem.now a.n (spine_of a.canonical) a.f) a.sure _ _ _ (c.if-not-sure.false) c.sub.ensures.exact c.work_at-high.ensures c.work_at-low.ensures
