-- `amount::read` meets its contract (document 01, "Amounts"). The loop's invariant is `Progress`: what the whole text is read as is what
-- is left to read gives after the digits so far. The measure is what is left of the length.
use Prim.Native.Nat.{◌-◌}
use lib.ListN.{length}
use Rattle.amount.specs.Value.{value}
use Rattle.amount.proofs.Digits.{Progress}
use Rattle.amount.proofs.read.Given as goal

abbrev pub invariant-loop-i : goal.invariant-loop-i
invariant-loop-i l = Progress l.text l.digits (value l.sum) l.i

abbrev pub decreases-loop-i : goal.decreases-loop-i
decreases-loop-i l = length l.text - l.i
