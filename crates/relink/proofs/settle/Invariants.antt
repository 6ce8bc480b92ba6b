-- `relink::settle` meets its contract. The loop: what is left to do comes to the same, and takes no more turns than are left.
use Rattle.memory.specs.Layout.{Laid}
use Rattle.relink.proofs.SettleLaws.{Settling}
use Rattle.relink.proofs.settle.Given as goal

abbrev pub invariant-loop : goal.invariant-loop
invariant-loop l = Laid l.mem l.n × Settling l.initial.mem l.mem l.n l.counter
