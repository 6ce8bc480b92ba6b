-- `weighing::held_back` meets its contract.
use native.Mathlib.Omega.{arith}
use Rattle.walks.specs.Asking.{floor_means}
use Rattle.weighing.proofs.DecideLaws.{held_unproven, held_floor, held_short, held_covers}
use mathlib.Core.Path.{ap}
use mathlib.Core.Bool.{not}
use Rattle.weighing.proofs.held_back.Goals as goal

pub returns-then-not-proven_at : goal.returns-then-not-proven_at
returns-then-not-proven_at c = λ ut ul uf x k z. let a = c.args in held_unproven a.mem.now a.n a.top a.local a.f (floor_means a.floor) a.per_epoch a.stray (omega arith) (omega arith) ul uf x k z _ c.proven_at.ensures (ap not c.if-not-proven_at.true)

pub returns-then-floor_holds : goal.returns-then-floor_holds
returns-then-floor_holds c = λ ut ul uf x k z. let a = c.args in held_floor a.mem.now a.n a.top a.local a.f (floor_means a.floor) a.per_epoch a.stray (omega arith) (omega arith) ul uf x k z _ c.proven_at.ensures _ c.floor_holds.ensures (ap not c.if-not-proven_at.false) c.if-floor_holds.true

pub returns-then-not-covers_at : goal.returns-then-not-covers_at
returns-then-not-covers_at c = λ ut ul uf x k z. let a = c.args in held_short a.mem.now a.n a.top a.local a.f (floor_means a.floor) a.per_epoch a.stray (omega arith) (omega arith) ul uf x k z _ c.proven_at.ensures _ c.floor_holds.ensures (ap not c.if-not-proven_at.false) c.if-floor_holds.false _ (c.covers_at.ensures ul) (c.if-not-covers_at.true)

pub returns : goal.returns
returns c = λ ut ul uf x k z. let a = c.args in held_covers a.mem.now a.n a.top a.local a.f (floor_means a.floor) a.per_epoch a.stray (omega arith) (omega arith) ul uf x k z _ c.proven_at.ensures _ c.floor_holds.ensures (ap not c.if-not-proven_at.false) c.if-floor_holds.false _ (c.covers_at.ensures ul) (c.if-not-covers_at.false) _ (c.covers_at-2.ensures ut)
