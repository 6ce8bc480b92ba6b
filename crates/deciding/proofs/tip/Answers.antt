-- `deciding::tip` meets its contract.
use Rattle.asking.proofs.BestLaws.{top_winner, top_canonical}
use Rattle.deciding.proofs.tip.Goals as goal

pub returns-then-canonical : goal.returns-then-canonical
returns-then-canonical c = λ w f. rw c.if-canonical.true (top_canonical _ _ _ w f c.best.ensures)

pub returns : goal.returns
returns c = λ w f. rw c.if-canonical.false (top_winner _ _ _ w f c.best-2.ensures)
