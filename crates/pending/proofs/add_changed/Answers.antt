-- `pending::add_changed` meets its contract. The loop has added the hashes of the i newest entries.
use native.Mathlib.Omega.{arith}
use Rattle.pending.proofs.ChangedLaws.{newest_start, newest_more, newest_done}
use Rattle.pending.proofs.add_changed.Goals as goal

pub loop-i-init : goal.loop-i-init
loop-i-init c = newest_start _ _ _

pub loop-i-preserved : goal.loop-i-preserved
loop-i-preserved c =
    let l = c.loop-i in
    newest_more c.args.mem.now l.mem _ c.args.n c.later-k.result l.i c.requires c.loop-i-test.true l.invariant c.add_entry.ensures

pub returns : goal.returns
returns c =
    let l = c.loop-i in
    newest_done c.args.mem.now l.mem c.args.n c.args.v c.later-k.result l.i c.later-k.ensures (omega arith) c.loop-i-test.false l.invariant
