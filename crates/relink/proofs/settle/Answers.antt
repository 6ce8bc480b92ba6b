-- `relink::settle` meets its contract. The loop: what is left to do comes to the same, and takes no more turns than are left.
use native.Mathlib.Omega.{arith}
use Rattle.state.proofs.TreeSteps.{tree_laid}
use Rattle.relink.proofs.SettleLaws.{settling_start, settling_turn, settling_done, settling_unmarked, settling_spent}
use Rattle.relink.proofs.settle.Goals as goal
use Rattle.relink.proofs.settle.Goals.{then-n-p-via-then-n-p, then-n-p-via-else-n-p+then-mem-p-eq0}

pub loop-init : goal.loop-init
loop-init c = (c.requires, settling_start _ _)

pub returns-then-n-p : goal.returns-then-n-p
returns-then-n-p c =
    elim c.then-n-p.branch [
      | then-n-p-via-then-n-p w ↦ settling_done _ _ _ _ _ c.loop.invariant.1 c.first-p.ensures w.if-n-p.true
      | then-n-p-via-else-n-p+then-mem-p-eq0 w ↦ settling_unmarked _ _ _ _ _ c.loop.invariant.1 c.first-p.ensures (omega arith) w.if-mem-p-eq0.true
    ]

pub loop-preserved : goal.loop-preserved
loop-preserved c = (
  tree_laid _ _ _ c.turn.ensures.only c.loop.invariant.0,
  settling_turn _ _ _ _ _ c.loop.invariant.1 c.first-p.ensures _ (omega arith) c.turn.ensures,
)

pub returns : goal.returns
returns c = settling_spent _ _ _ _ c.loop.invariant.1 c.loop-test.false
