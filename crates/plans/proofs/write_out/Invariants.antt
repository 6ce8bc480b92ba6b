-- `plans::write_out` meets its contract. The loop has put i entries into the list.
use Prim.Native.Nat.{◌-◌}
use Rattle.block.specs.Records.{reason_means}
use Rattle.plans.specs.Lent.{clock_of}
use Rattle.plans.proofs.OutLaws.{Writing}
use Rattle.plans.proofs.write_out.Given as goal

abbrev pub invariant-loop-i : goal.invariant-loop-i
invariant-loop-i l = Writing l.initial.mem l.mem l.n l.i (clock_of l.time) (reason_means l.reason) l.initial.list l.list

abbrev pub decreases-loop-i : goal.decreases-loop-i
decreases-loop-i l = l.places - l.i
