-- `extending::orphan_ours` meets its contract: what is left of our walk is still to be orphaned, and the safe front is gone down in step.
use Rattle.extending.proofs.RivalLaws.{Stepping}
use Rattle.extending.proofs.orphan_ours.Given as goal

abbrev pub invariant-loop : goal.invariant-loop
invariant-loop l = Stepping l.initial.mem l.mem l.n l.local l.f l.top l.q l.s l.counter
