-- `holdings::hand_out` meets its contract.
use Rattle.holdings.proofs.ChangesSteps.{changes_short, changes_written}
use native.Mathlib.Omega.{arith}
use Rattle.holdings.proofs.hand_out.Goals as goal

pub returns-then-list-k : goal.returns-then-list-k
returns-then-list-k c = λ g had. changes_short g _ _ _ _ _ had c.if-list-k.true

pub returns : goal.returns
returns c = λ g had. changes_written g _ _ _ _ _ had _ (omega arith) c.write_changes.ensures
