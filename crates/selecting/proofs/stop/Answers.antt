-- `selecting::stop` meets its contract.
use Rattle.selecting.proofs.StopLaws.{stops_plain, stops_turned}
use Rattle.selecting.proofs.stop.Goals as goal

pub returns-then-not-stray : goal.returns-then-not-stray
returns-then-not-stray c = let a = c.args in stops_plain a.mem.now a.n a.top a.stray a.demoted _ c.applied.ensures (c.if-not-stray.true)

pub returns : goal.returns
returns c = let a = c.args in stops_turned a.mem.now a.n a.top a.stray a.demoted _ c.applied-2.ensures _ c.turn_all.ensures
