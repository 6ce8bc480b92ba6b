-- `walks::line` meets its contract: the k places before q are noted.
use Rattle.walks.proofs.LineLaws.{Noting}
use Rattle.walks.proofs.line.Given as goal

abbrev pub invariant-loop-k : goal.invariant-loop-k
invariant-loop-k l = Noting l.initial.mem l.mem l.n l.top l.q l.k
