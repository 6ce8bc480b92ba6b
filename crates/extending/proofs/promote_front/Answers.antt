-- `extending::promote_front` meets its contract: what is left of the walk above f is still to be promoted.
use native.Mathlib.Omega.{arith}
use Rattle.extending.specs.Accepting.{promote_code}
use Rattle.extending.proofs.AboveLaws.{writing_start, writing_out, writing_met, writing_none, writing_more}
use Rattle.extending.proofs.PieceLaws.{promote_is}
use Rattle.extending.proofs.promote_front.Goals as goal

pub loop-init : goal.loop-init
loop-init c = let a = c.args in writing_start a.mem.now a.n a.top a.f a.top promote_code (omega arith)

pub returns-then-mem-q : goal.returns-then-mem-q
returns-then-mem-q c =
    let l = c.loop in
    writing_met c.args.mem.now l.mem c.args.n c.args.top c.args.f c.args.top l.q l.counter promote_code c.requires.0 (omega arith) l.invariant c.if-mem-q.true

pub returns-then-n-q : goal.returns-then-n-q
returns-then-n-q c =
    let l = c.loop in
    writing_none c.args.mem.now l.mem c.args.n c.args.top c.args.f c.args.top l.q l.counter promote_code c.requires.0 (omega arith) l.invariant _ (omega arith) _ c.write.ensures (λ s v. promote_is l.mem c.args.n l.q _ _ l.invariant.low c.code.ensures c.promote_code-c.ensures.right) _ c.parent-q.ensures c.if-n-q.true

pub loop-preserved : goal.loop-preserved
loop-preserved c =
    let l = c.loop in
    writing_more c.args.mem.now l.mem c.args.n c.args.top c.args.f c.args.top l.q l.counter promote_code c.requires.0 (omega arith) l.invariant _ (omega arith) _ c.write.ensures (λ s v. promote_is l.mem c.args.n l.q _ _ l.invariant.low c.code.ensures c.promote_code-c.ensures.right) _ c.parent-q.ensures (omega arith)

pub returns : goal.returns
returns c =
    let l = c.loop in
    writing_out c.args.mem.now l.mem c.args.n c.args.top c.args.f c.args.top l.q l.counter promote_code c.requires.0 (omega arith) l.invariant (omega arith)
