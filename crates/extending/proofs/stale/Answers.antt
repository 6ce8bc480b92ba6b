-- `extending::stale` meets its contract.
use native.Mathlib.Omega.{arith}
use Rattle.sides.proofs.BlockLaws.{stale_far, stale_near}
use Rattle.extending.proofs.stale.Goals as goal

pub returns-then-blocks : goal.returns-then-blocks
returns-then-blocks c = let a = c.args in stale_far a.blocks a.bottom a.local (omega arith)

pub returns-then-bottom-blocks : goal.returns-then-bottom-blocks
returns-then-bottom-blocks c = let a = c.args in stale_far a.blocks a.bottom a.local (omega arith)

pub returns : goal.returns
returns c = let a = c.args in stale_near a.blocks a.bottom a.local (omega arith)
