-- `asking::best_in` meets its contract.
use Rattle.asking.proofs.BestLaws.{best_winner, best_canonical}
use Rattle.asking.proofs.best_in.Goals as goal

pub returns-then-canonical : goal.returns-then-canonical
returns-then-canonical c = rw c.if-canonical.true (best_canonical _ _ _ _ _ c.best-p.ensures c.tip_at.ensures)

pub returns : goal.returns
returns c = rw c.if-canonical.false (best_winner _ _ _ _ _ c.best-p-2.ensures c.tip_at-2.ensures)
