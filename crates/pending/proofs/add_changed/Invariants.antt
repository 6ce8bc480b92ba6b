-- `pending::add_changed` meets its contract. The loop has added the hashes of the i newest entries.
use Rattle.pending.proofs.ChangedLaws.{NewestAdded}
use Rattle.pending.proofs.add_changed.Given as goal

abbrev pub invariant-loop-i : goal.invariant-loop-i
invariant-loop-i l = NewestAdded l.initial.mem l.mem l.n l.k l.i
