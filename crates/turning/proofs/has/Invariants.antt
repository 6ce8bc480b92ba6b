-- `turning::has` meets its contract. None below i has the code.
use Prim.Native.Nat.{◌+◌}
use lib.Dec.{eqb}
use Rattle.memory.specs.Words.{word}
use Rattle.memory.specs.Layout.{row}
use Rattle.turning.proofs.HasLaws.{NoneBelow}
use Rattle.turning.proofs.has.Given as goal

abbrev pub invariant-loop-i : goal.invariant-loop-i
invariant-loop-i l = NoneBelow (λ q. eqb (word l.mem (row q + 59)) l.c) l.i
