-- `pending::add_live` meets its contract. The loop has added the live blocks below p.
use Rattle.pending.proofs.TurnLaws.{LiveBelow}
use Rattle.pending.proofs.add_live.Given as goal

abbrev pub invariant-loop-p : goal.invariant-loop-p
invariant-loop-p l = LiveBelow l.initial.mem l.mem l.n l.p
