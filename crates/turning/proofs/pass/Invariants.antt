-- `turning::pass` meets its contract. The loop has passed i places.
use Rattle.turning.proofs.PassLaws.{Passing}
use Rattle.turning.proofs.pass.Given as goal

abbrev pub invariant-loop-i : goal.invariant-loop-i
invariant-loop-i l = Passing l.initial.mem l.mem l.n l.turn l.top l.k l.i
