-- `selecting::select` meets its contract.
use Rattle.walks.specs.Asking.{floor_means}
use Rattle.selecting.proofs.SelectLaws.{plots_none, plots_bare, plots_both}
use Rattle.selecting.proofs.select.Goals as goal

pub returns-then-n-top : goal.returns-then-n-top
returns-then-n-top c = plots_none c.args.mem.now c.args.n (floor_means c.args.floor) c.args.per_epoch c.requires _ c.tip-top.ensures c.if-n-top.true

pub returns-then-n-local : goal.returns-then-n-local
returns-then-n-local c = plots_bare c.args.mem.now c.args.n (floor_means c.args.floor) c.args.per_epoch c.requires _ c.tip-top.ensures c.if-n-top.false _ c.tip-local.ensures c.if-n-local.true

pub returns : goal.returns
returns c = plots_both c.args.mem.now c.args.n (floor_means c.args.floor) c.args.per_epoch c.requires _ c.tip-top.ensures c.if-n-top.false _ c.tip-local.ensures _ _ c.if-n-local.false c.between.ensures
