-- `turning::climb` meets its contract. The walk came to q; the blocks before it have their codes.
use Rattle.turning.proofs.ClimbLaws.{Climbing}
use Rattle.turning.proofs.climb.Given as goal

abbrev pub invariant-loop : goal.invariant-loop
invariant-loop l = Climbing l.initial.mem l.mem l.n l.up l.top l.f l.q l.counter
