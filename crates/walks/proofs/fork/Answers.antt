-- `walks::fork` meets its contract: the walks from x and y that are left have the fork that was asked for.
use native.Mathlib.Omega.{arith}
use Rattle.walks.proofs.ForkLaws.{fork_start, fork_met, fork_out, right_none, right_more, left_none, left_more}
use Rattle.walks.proofs.fork.Goals as goal
use Rattle.walks.proofs.fork.Goals.{then-mem-x+else-n-y, else-mem-x+else-n-x}

pub loop-init : goal.loop-init
loop-init c = let a = c.args in fork_start a.mem.now a.n a.p a.q (omega arith) (omega arith)

pub returns-then-x-y : goal.returns-then-x-y
returns-then-x-y c =
    let a = c.args in
    let l = c.loop in
    fork_met a.mem.now a.n a.p a.q l.x l.y l.counter l.invariant c.if-x-y.true

pub returns-then-n-y : goal.returns-then-n-y
returns-then-n-y c =
    let a = c.args in
    let l = c.loop in
    right_none a.mem.now a.n a.p a.q l.x l.y l.counter l.invariant _ c.if-mem-x.true c.parent-y.ensures c.if-n-y.true

pub returns-then-n-x : goal.returns-then-n-x
returns-then-n-x c =
    let a = c.args in
    let l = c.loop in
    left_none a.mem.now a.n a.p a.q l.x l.y l.counter l.invariant _ c.if-x-y.false (λ i. omega arith) c.parent-x.ensures c.if-n-x.true

pub loop-preserved : goal.loop-preserved
loop-preserved c =
    let a = c.args in
    let l = c.loop in
    elim c.if-mem-x.branch [
      | then-mem-x+else-n-y w ↦ rw (w.x-is, w.y-is) (right_more a.mem.now a.n a.p a.q l.x l.y l.counter l.invariant _ w.if-mem-x.true w.parent-y.ensures (omega arith))
      | else-mem-x+else-n-x w ↦ rw (w.x-is, w.y-is) (left_more a.mem.now a.n a.p a.q l.x l.y l.counter l.invariant _ c.if-x-y.false (λ i. omega (arith, w.if-mem-x.false)) w.parent-x.ensures (omega arith))
    ]

pub returns : goal.returns
returns c =
    let a = c.args in
    let l = c.loop in
    fork_out a.mem.now a.n a.p a.q l.x l.y l.counter l.invariant (omega arith)
