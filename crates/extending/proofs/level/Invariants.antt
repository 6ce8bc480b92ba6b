-- `extending::level` meets its contract: what is sought from s is sought from where the walk came to.
use Rattle.extending.proofs.LevelLaws.{Searching}
use Rattle.extending.proofs.level.Given as goal

abbrev pub invariant-loop : goal.invariant-loop
invariant-loop l = Searching l.mem l.n l.s l.i l.q l.counter
