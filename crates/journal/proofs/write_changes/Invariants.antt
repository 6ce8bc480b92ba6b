-- `journal::write_changes` meets its contract. The loop goes from the oldest entry to the newest, and has written the last touches it passed.
use Rattle.journal.proofs.ChangesLaws.{Writing}
use Rattle.journal.proofs.write_changes.Given as goal

abbrev pub invariant-loop-i : goal.invariant-loop-i
invariant-loop-i l = Writing l.mem l.n l.k l.i l.at l.initial.list l.list
