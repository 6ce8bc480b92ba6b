-- `sides::our_tip` meets its contract: where local's proofs are ok no block of our walk misses.
use mathlib.Core.Path.{sym, ◌∙◌}
use native.Mathlib.Omega.{arith}
use Rattle.sides.proofs.ProvenLaws.{tip_none, tip_local}
use Rattle.sides.proofs.our_tip.Goals as goal

pub returns-then-not-proven_at : goal.returns-then-not-proven_at
returns-then-not-proven_at c s u w k h v st = c.walked_tip.ensures s u w k h

pub returns-then-mem-local : goal.returns-then-mem-local
returns-then-mem-local c =
    let a = c.args in
    tip_none a.mem.now a.n a.local a.f (omega arith) (omega arith) c.if-mem-local.true

pub returns : goal.returns
returns c =
    let a = c.args in
    tip_local a.mem.now a.n a.local a.f (omega arith) (omega arith) (sym c.proven_at.ensures ∙ c.if-not-proven_at.false) (omega arith)
