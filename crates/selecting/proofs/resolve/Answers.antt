-- `selecting::resolve` meets its contract.
use Rattle.walks.specs.Asking.{floor_means}
use Rattle.selecting.proofs.ResolveLaws.{resolves_held, resolves_stopped, resolves_switched}
use Rattle.selecting.proofs.resolve.Goals as goal

pub returns-then-held_back : goal.returns-then-held_back
returns-then-held_back c =
    let a = c.args in
    resolves_held a.mem.now _ a.n (floor_means a.floor) a.per_epoch a.top a.local a.f a.stray a.demoted _ _ c.held_back.ensures c.if-held_back.true c.stop.ensures

pub returns-then-not-goes_on : goal.returns-then-not-goes_on
returns-then-not-goes_on c =
    let a = c.args in
    resolves_stopped a.mem.now _ a.n (floor_means a.floor) a.per_epoch a.top a.local a.f a.stray a.demoted _ _ c.held_back.ensures c.if-held_back.false _ c.goes_on.ensures (c.if-not-goes_on.true) c.stop-then-not-goes_on.ensures

pub returns : goal.returns
returns c =
    let a = c.args in
    resolves_switched a.mem.now _ a.n (floor_means a.floor) a.per_epoch a.top a.local a.f a.stray a.demoted _ _ c.held_back.ensures c.if-held_back.false _ c.goes_on.ensures (c.if-not-goes_on.false) c.switch.ensures c.applied.ensures
