-- `releasing::release` meets its contract: the loop has looked at the first i of the listed places.
use Rattle.releasing.proofs.ReleaseLaws.{Walked}
use Rattle.releasing.proofs.release.Given as goal

abbrev pub invariant-loop-i : goal.invariant-loop-i
invariant-loop-i l = Walked l.initial.mem l.mem l.n l.i
