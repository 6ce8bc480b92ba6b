-- `extending::level` meets its contract: what is sought from s is sought from where the walk came to.
use native.Mathlib.Omega.{arith}
use Rattle.extending.proofs.LevelLaws.{level_start, level_out, level_met, level_more}
use Rattle.extending.proofs.level.Goals as goal

pub loop-init : goal.loop-init
loop-init c = let a = c.args in level_start a.mem.now a.n a.s a.i

pub returns-then-mem-q : goal.returns-then-mem-q
returns-then-mem-q c =
    let a = c.args in
    let l = c.loop in
    level_met a.mem.now a.n a.s a.i l.q l.counter l.invariant (omega arith) c.if-mem-q.true

pub loop-preserved : goal.loop-preserved
loop-preserved c =
    let a = c.args in
    let l = c.loop in
    level_more a.mem.now a.n a.s a.i l.q l.counter l.invariant (omega arith) _ (omega arith) c.parent-q.ensures

pub returns : goal.returns
returns c =
    let a = c.args in
    let l = c.loop in
    level_out a.mem.now a.n a.s a.i l.q l.counter l.invariant (omega arith)
