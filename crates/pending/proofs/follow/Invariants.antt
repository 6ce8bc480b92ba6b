-- `pending::follow` meets its contract. Each step of the loop visits one more place whose previous hash is that of p, and x is the next.
use Rattle.block.specs.Words.{quad}
use Rattle.pending.proofs.FollowLaws.{Following}
use Rattle.pending.proofs.follow.Given as goal

abbrev pub invariant-loop-step : goal.invariant-loop-step
invariant-loop-step l = Following l.initial.mem l.mem l.n (quad l.h.a l.h.b l.h.c l.h.d) l.x l._step
