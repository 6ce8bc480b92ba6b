-- `extending::orphan_stale` meets its contract: code 4 stands at the blocks passed.
use Rattle.extending.proofs.OrphanLaws.{Orphaning}
use Rattle.extending.proofs.orphan_stale.Given as goal

abbrev pub invariant-loop : goal.invariant-loop
invariant-loop l = Orphaning l.initial.mem l.mem l.n l.leaf l.q l.counter
