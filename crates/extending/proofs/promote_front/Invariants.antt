-- `extending::promote_front` meets its contract: what is left of the walk above f is still to be promoted.
use Rattle.extending.specs.Accepting.{promote_code}
use Rattle.extending.proofs.AboveLaws.{Writing}
use Rattle.extending.proofs.promote_front.Given as goal

abbrev pub invariant-loop : goal.invariant-loop
invariant-loop l = Writing l.initial.mem l.mem l.n l.top l.f l.top l.q l.counter promote_code
