-- `sides::walked_tip` meets its contract: what is left of our walk, and the blocks passed are gathered.
use mathlib.Core.Path.{refl}
use native.Mathlib.Omega.{arith}
use Rattle.sides.proofs.OurLaws.{our_start, our_met, our_out, our_none, our_more}
use Rattle.sides.proofs.walked_tip.Goals as goal

pub loop-init : goal.loop-init
loop-init c = let a = c.args in our_start a.mem.now a.n a.local a.f _ (omega arith) refl refl refl refl

pub returns-then-mem-q : goal.returns-then-mem-q
returns-then-mem-q c =
    let a = c.args in
    let l = c.loop in
    our_met a.mem.now a.n a.local a.f (omega arith) l.q l.counter l.front l.invariant c.if-mem-q.true

pub returns-then-n-q : goal.returns-then-n-q
returns-then-n-q c =
    let a = c.args in
    let l = c.loop in
    our_none a.mem.now a.n a.local a.f (omega arith) l.q l.counter l.front l.invariant _ _ (omega (arith, c.if-mem-q.false)) c.meets_at-meets.ensures c.pass-front.ensures _ c.parent-q.ensures c.if-n-q.true

pub loop-preserved : goal.loop-preserved
loop-preserved c =
    let a = c.args in
    let l = c.loop in
    our_more a.mem.now a.n a.local a.f (omega arith) l.q l.counter l.front l.invariant _ _ (omega (arith, c.if-mem-q.false)) c.meets_at-meets.ensures c.pass-front.ensures _ c.parent-q.ensures (omega arith)

pub returns : goal.returns
returns c =
    let a = c.args in
    let l = c.loop in
    our_out a.mem.now a.n a.local a.f (omega arith) l.q l.counter l.front l.invariant (omega arith) _
