-- `selecting::settle` meets its contract.
use native.Mathlib.Omega.{arith}
use Rattle.walks.specs.Asking.{floor_means}
use Rattle.turning.proofs.FrameLaws.{plan_laid}
use Rattle.selecting.proofs.SettleLaws.{settled_rests, settled_scan, settled_plain, settled_near}
use Rattle.selecting.proofs.settle.Goals as goal

pub returns-then-rests : goal.returns-then-rests
returns-then-rests c =
    let a = c.args in
    settled_rests a.mem.now a.n (floor_means a.floor) a.per_epoch a.top a.local a.demoted a.aside _ c.rests.ensures _ c.if-rests.true c.applied.ensures

pub returns-then-n-f : goal.returns-then-n-f
returns-then-n-f c =
    let a = c.args in
    settled_scan a.mem.now a.n (floor_means a.floor) a.per_epoch a.top a.local a.demoted a.aside _ c.rests.ensures _ c.if-rests.false c.fork-f.ensures _ c.if-n-f.true c.forget.ensures

pub returns-then-not-aside : goal.returns-then-not-aside
returns-then-not-aside c =
    let a = c.args in
    settled_plain a.mem.now a.n (floor_means a.floor) a.per_epoch a.top a.local a.demoted a.aside _ c.rests.ensures _ c.if-rests.false c.fork-f.ensures c.if-n-f.false _ _ (c.if-not-aside.true) c.resolve.ensures

pub has-stray-requires : goal.has-stray-requires
has-stray-requires c = plan_laid c.args.mem.now _ c.args.n c.turn_all.ensures.only c.requires.0

pub resolve-requires-2 : goal.resolve-requires-2
resolve-requires-2 c = (plan_laid c.args.mem.now _ c.args.n c.turn_all.ensures.only c.requires.0, c.requires.1, c.requires.2, omega arith)

pub returns : goal.returns
returns c =
    let a = c.args in
    settled_near a.mem.now a.n (floor_means a.floor) a.per_epoch a.top a.local a.demoted a.aside _ c.rests.ensures _ c.if-rests.false c.fork-f.ensures c.if-n-f.false _ _ _ _ c.turn_all.ensures c.has-stray.ensures c.resolve-2.ensures
