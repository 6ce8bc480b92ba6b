-- `walks::fork` meets its contract: the walks from x and y that are left have the fork that was asked for.
use Rattle.walks.proofs.ForkLaws.{Coming}
use Rattle.walks.proofs.fork.Given as goal

abbrev pub invariant-loop : goal.invariant-loop
invariant-loop l = Coming l.mem l.n l.p l.q l.x l.y l.counter
