-- `sides::walked_tip` meets its contract: what is left of our walk, and the blocks passed are gathered.
use Rattle.sides.proofs.OurLaws.{Coming}
use Rattle.sides.proofs.walked_tip.Given as goal

abbrev pub invariant-loop : goal.invariant-loop
invariant-loop l = Coming l.mem l.n l.local l.f l.q l.counter l.front
