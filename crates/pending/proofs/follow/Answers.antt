-- `pending::follow` meets its contract. Each step of the loop visits one more place whose previous hash is that of p, and x is the next.
use mathlib.Core.Logic.{inl, inr}
use native.Mathlib.Omega.{arith}
use Rattle.block.specs.Words.{quad}
use Rattle.pending.proofs.FollowLaws.{follow_start, follow_more, follow_done}
use Rattle.pending.proofs.follow.Goals as goal

pub loop-step-init : goal.loop-step-init
loop-step-init c =
    let h = c.read_four-h.result in
    follow_start c.args.mem.now c.args.n h.a h.b h.c h.d _ c.requires.0 c.find-x.ensures

pub returns-then-n-x : goal.returns-then-n-x
returns-then-n-x c =
    let l = c.loop-step in
    let h = c.read_four-h.result in
    follow_done c.args.mem.now l.mem c.args.n c.args.p h.a h.b h.c h.d l.x l._step c.requires.1 (λ i. let f = c.slice_known-1.given i in omega arith) c.read_four-h.ensures
    (inl c.if-n-x.true) l.invariant

pub loop-step-preserved : goal.loop-step-preserved
loop-step-preserved c =
    let l = c.loop-step in
    let h = c.read_four-h.result in
    follow_more c.args.mem.now l.mem _ c.args.n (quad h.a h.b h.c h.d) l.x l._step _ c.requires.0 (omega arith) l.invariant c.add_if_live.ensures c.seek-x.ensures

pub returns : goal.returns
returns c =
    let l = c.loop-step in
    let h = c.read_four-h.result in
    follow_done c.args.mem.now l.mem c.args.n c.args.p h.a h.b h.c h.d l.x l._step c.requires.1 (λ i. let f = c.slice_known-1.given i in omega arith) c.read_four-h.ensures
    (inr c.loop-step-test.false) l.invariant
