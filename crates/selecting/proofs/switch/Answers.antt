-- `selecting::switch` meets its contract.
use Rattle.pending.proofs.TurnLaws.{pend_laid}
use Rattle.selecting.proofs.SwitchLaws.{switches_plain, switches_turned}
use Rattle.selecting.proofs.switch.Goals as goal

pub climb-requires-2 : goal.climb-requires-2
climb-requires-2 c = (pend_laid c.args.mem.now _ c.args.n c.requires.0 c.climb.ensures.only, c.requires.2, c.requires.3)

pub returns-then-not-stray : goal.returns-then-not-stray
returns-then-not-stray c = let a = c.args in switches_plain a.mem.now _ _ a.n a.top a.local a.f a.stray c.climb.ensures c.climb-2.ensures (c.if-not-stray.true)

pub turn_all-requires : goal.turn_all-requires
turn_all-requires c =
    let laid = pend_laid c.args.mem.now _ c.args.n c.requires.0 c.climb.ensures.only in
    (pend_laid _ _ c.args.n laid c.climb-2.ensures.only, c.requires.1)

pub returns : goal.returns
returns c = let a = c.args in switches_turned a.mem.now _ _ a.n a.top a.local a.f a.stray c.climb.ensures c.climb-2.ensures _ c.turn_all.ensures
