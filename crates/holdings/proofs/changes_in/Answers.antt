-- `holdings::changes_in` meets its contract.
use mathlib.Core.Path.{sym, ◌∙◌}
use Rattle.holdings.proofs.ChangesSteps.{changes_none}
use Rattle.holdings.proofs.changes_in.Goals as goal

pub returns-in-None : goal.returns-in-None
returns-in-None c = changes_none _ _ _ _ _ (λ s. sym c.in-None.is ∙ c.changes_had.ensures s.journal)

pub returns-in-Count : goal.returns-in-Count
returns-in-Count c = c.hand_out.ensures _ (λ s. sym c.in-Count.is ∙ c.changes_had.ensures s.journal)
