-- `plans::write_out` meets its contract. The loop has put i entries into the list.
use Rattle.block.specs.Records.{reason_means}
use Rattle.plans.specs.Lent.{clock_of}
use Rattle.plans.proofs.OutLaws.{writing_start, writing_more, writing_full, writing_short}
use Rattle.plans.proofs.write_out.Goals as goal

pub loop-i-init : goal.loop-i-init
loop-i-init c = writing_start _ _ _ _ _

pub returns-then-e-eq0 : goal.returns-then-e-eq0
returns-then-e-eq0 c = writing_short c.args.mem.now c.loop-i.mem c.args.n c.loop-i.i (clock_of c.args.time) (reason_means c.args.reason) c.args.list.now c.loop-i.list c.requires c.loop-i.invariant _ _ c.next-e.ensures c.if-e-eq0.true

pub loop-i-preserved : goal.loop-i-preserved
loop-i-preserved c = writing_more c.args.mem.now c.loop-i.mem c.args.n c.loop-i.i (clock_of c.args.time) (reason_means c.args.reason) c.args.list.now c.loop-i.list c.requires c.loop-i.invariant _ _ c.next-e.ensures c.if-e-eq0.false c.loop-i-test.true _ c.put.ensures

pub returns : goal.returns
returns c = writing_full c.args.mem.now c.loop-i.mem c.args.n c.loop-i.i (clock_of c.args.time) (reason_means c.args.reason) c.args.list.now c.loop-i.list c.requires c.loop-i.invariant c.loop-i-test.false
