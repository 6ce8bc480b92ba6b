-- `extending::orphan_ours` meets its contract: what is left of our walk is still to be orphaned, and the safe front is gone down in step.
use native.Mathlib.Omega.{arith}
use Rattle.state.specs.View.{view_at}
use Rattle.extending.specs.Accepting.{orphan_code}
use Rattle.extending.proofs.AboveLaws.{writing_out, writing_met}
use Rattle.extending.proofs.RivalLaws.{step_start, step_none, step_more}
use Rattle.extending.proofs.orphan_ours.Goals as goal

pub loop-init : goal.loop-init
loop-init c = let a = c.args in step_start a.mem.now a.n a.local a.f a.top (omega arith) (omega arith)

pub returns-then-i-low : goal.returns-then-i-low
returns-then-i-low c =
    let l = c.loop in
    writing_met c.args.mem.now l.mem c.args.n c.args.local c.args.f c.args.top l.q l.counter (orphan_code (view_at c.args.mem.now c.args.n).holdings c.args.top) c.requires.0 (omega arith) l.invariant.ours c.if-i-low.true

pub returns-then-n-q : goal.returns-then-n-q
returns-then-n-q c =
    let l = c.loop in
    step_none c.args.mem.now l.mem c.args.n c.args.local c.args.f c.args.top l.q l.s l.counter c.requires.0 (omega arith) l.invariant _ c.level-s.ensures _ (omega arith) _ c.rival_code-c.ensures.right c.write.ensures _ c.parent-q.ensures c.if-n-q.true

pub loop-preserved : goal.loop-preserved
loop-preserved c =
    let l = c.loop in
    step_more c.args.mem.now l.mem c.args.n c.args.local c.args.f c.args.top l.q l.s l.counter c.requires.0 (omega arith) l.invariant _ c.level-s.ensures _ (omega arith) _ c.rival_code-c.ensures.right c.write.ensures _ c.parent-q.ensures (omega arith)

pub returns : goal.returns
returns c =
    let l = c.loop in
    writing_out c.args.mem.now l.mem c.args.n c.args.local c.args.f c.args.top l.q l.counter (orphan_code (view_at c.args.mem.now c.args.n).holdings c.args.top) c.requires.0 (omega arith) l.invariant.ours (omega arith)
