-- `turning::climb` meets its contract. The walk came to q; the blocks before it have their codes.
use native.Mathlib.Omega.{arith}
use Rattle.turning.proofs.ClimbLaws.{climbing_start, climbing_low, climbing_out, climbing_end, climbing_more}
use Rattle.turning.proofs.climb.Goals as goal

pub loop-init : goal.loop-init
loop-init c = climbing_start c.args.mem.now c.args.n c.args.up c.args.top c.args.f c.requires.0 c.requires.1

pub returns-then-mem-q : goal.returns-then-mem-q
returns-then-mem-q c = let l = c.loop in climbing_low c.args.mem.now l.mem c.args.n c.args.up c.args.top c.args.f l.q l.counter c.requires.0 c.requires.2 l.invariant c.if-mem-q.true

pub returns-then-n-q : goal.returns-then-n-q
returns-then-n-q c = let l = c.loop in climbing_end c.args.mem.now l.mem c.args.n c.args.up c.args.top c.args.f l.q l.counter c.requires.0 c.requires.2 l.invariant _ _ _ c.if-mem-q.false c.climbed-c.ensures c.put.ensures c.parent-q.ensures c.if-n-q.true

pub loop-preserved : goal.loop-preserved
loop-preserved c = let l = c.loop in climbing_more c.args.mem.now l.mem c.args.n c.args.up c.args.top c.args.f l.q l.counter c.requires.0 c.requires.2 l.invariant _ _ _ c.if-mem-q.false c.climbed-c.ensures c.put.ensures c.parent-q.ensures (omega arith)

pub returns : goal.returns
returns c = let l = c.loop in climbing_out c.args.mem.now l.mem c.args.n c.args.up c.args.top c.args.f l.q l.counter c.requires.0 c.requires.2 l.invariant (omega arith)
