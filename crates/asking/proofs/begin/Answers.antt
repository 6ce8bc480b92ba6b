-- `asking::begin` meets its contract.
use native.Mathlib.Omega.{arith}
use Rattle.asking.proofs.TreeAskLaws.{begins_nowhere, begins_stale}
use Rattle.asking.proofs.begin.Goals as goal

pub returns-then-n-eq0 : goal.returns-then-n-eq0
returns-then-n-eq0 c = begins_nowhere c.args.mem.now _ c.room-n.ensures.1 c.if-n-eq0.true

pub bounds-mem-7 : goal.bounds-mem-7
bounds-mem-7 c = let l = c.room-n.ensures.0 c.if-n-eq0.false in omega (arith, l.fits)

pub returns-then-mem-ne1 : goal.returns-then-mem-ne1
returns-then-mem-ne1 c = begins_stale c.args.mem.now c.if-mem-ne1.true

pub returns : goal.returns
returns c = (c.room-n.ensures.0 c.if-n-eq0.false, c.if-mem-ne1.false)
