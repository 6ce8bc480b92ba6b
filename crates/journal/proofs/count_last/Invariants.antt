-- `journal::count_last` meets its contract. The loop counts the last touches of the i newest entries.
use Prim.Native.Nat.{◌≤◌}
use mathlib.Core.Path.{◌≡◌}
use lib.ListN.{length}
use Rattle.memory.specs.Words.{word}
use Rattle.journal.specs.Journal.{touched_at, Journaled}
use Rattle.journal.specs.Changes.{lasts}
use Rattle.journal.proofs.count_last.Given as goal

abbrev pub invariant-loop-i : goal.invariant-loop-i
invariant-loop-i l = (l.r ≤ l.i) × (Journaled l.mem l.n → l.k ≤ word l.mem 4 → l.r ≡ length (lasts (touched_at l.mem l.n) l.i))
