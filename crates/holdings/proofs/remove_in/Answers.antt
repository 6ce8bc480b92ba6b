-- `holdings::remove_in` meets its contract.
use Rattle.arrivals.proofs.CallLaws.{remove_kind, remove_nowhere, remove_none, remove_last, remove_done}
use Rattle.state.proofs.TouchSteps.{touch_moves}
use Rattle.block.specs.Records.{hash_means}
use Rattle.holdings.proofs.remove_in.Goals as goal

pub returns-then-store-gt2 : goal.returns-then-store-gt2
returns-then-store-gt2 c = remove_kind c.args.mem.now c.args.n c.args.store (hash_means c.args.h) c.if-store-gt2.true

pub returns-then-n-p : goal.returns-then-n-p
returns-then-n-p c = remove_nowhere c.args.mem.now c.args.n c.args.store (hash_means c.args.h) c.find-p.result c.if-store-gt2.false c.find-p.ensures c.if-n-p.true

pub returns-then-mem-p-eq0 : goal.returns-then-mem-p-eq0
returns-then-mem-p-eq0 c = remove_none c.args.mem.now c.args.n c.args.store (hash_means c.args.h) c.find-p.result c.if-store-gt2.false c.find-p.ensures c.if-n-p.false c.if-mem-p-eq0.true

pub returns-then-mem : goal.returns-then-mem
returns-then-mem c = remove_last c.args.mem.now c.args.n c.args.store (hash_means c.args.h) c.find-p.result c.if-store-gt2.false c.find-p.ensures c.if-n-p.false c.if-mem-p-eq0.false c.if-mem.true

pub returns : goal.returns
returns c = remove_done c.args.mem.now c.args.n c.args.store (hash_means c.args.h) c.find-p.result c.if-store-gt2.false c.find-p.ensures c.if-n-p.false c.if-mem-p-eq0.false _ _ c.if-mem.false c.take_out.ensures (touch_moves _ _ _ _ c.take_out.ensures.laid c.touch.ensures)
