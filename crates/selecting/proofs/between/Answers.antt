-- `selecting::between` meets its contract.
use Rattle.turning.proofs.FrameLaws.{plan_laid}
use Rattle.selecting.proofs.SettleLaws.{selects_narrow, selects_wide}
use Rattle.selecting.proofs.between.Goals as goal

pub returns-then-not-wide : goal.returns-then-not-wide
returns-then-not-wide c = let a = c.args in selects_narrow a.mem.now a.n a.floor a.per_epoch a.top a.local _ _ c.wide.ensures _ (c.if-not-wide.true) c.settle.ensures

pub has-demoted-requires : goal.has-demoted-requires
has-demoted-requires c = plan_laid c.args.mem.now _ c.args.n c.turn_all.ensures.only c.requires.0

pub has-aside-requires : goal.has-aside-requires
has-aside-requires c = plan_laid c.args.mem.now _ c.args.n c.turn_all.ensures.only c.requires.0

pub settle-requires-2 : goal.settle-requires-2
settle-requires-2 c = (plan_laid c.args.mem.now _ c.args.n c.turn_all.ensures.only c.requires.0, c.requires.1, c.requires.2)

pub returns : goal.returns
returns c = let a = c.args in selects_wide a.mem.now a.n a.floor a.per_epoch a.top a.local _ _ c.wide.ensures _ _ _ _ c.turn_all.ensures c.has-demoted.ensures c.has-aside.ensures c.settle-2.ensures
