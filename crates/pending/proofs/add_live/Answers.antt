-- `pending::add_live` meets its contract. The loop has added the live blocks below p.
use Rattle.pending.proofs.TurnLaws.{live_more, live_done}
use Rattle.pending.proofs.add_live.Goals as goal

pub loop-p-preserved : goal.loop-p-preserved
loop-p-preserved c =
    let l = c.loop-p in
    live_more c.args.mem.now l.mem _ c.args.n l.p c.requires l.invariant c.add_if_live.ensures

pub returns : goal.returns
returns c =
    let l = c.loop-p in
    live_done c.args.mem.now l.mem c.args.n l.p c.loop-p-test.false l.invariant
