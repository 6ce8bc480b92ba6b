-- `holdings::changes` meets its contract: the room is read, and the question is answered inside of it.
use mathlib.Core.Path.{refl}
use Rattle.holdings.proofs.ChangesSteps.{changes_nowhere, changes_whole}
use Rattle.holdings.proofs.changes.Goals as goal

pub returns-then-n-eq0 : goal.returns-then-n-eq0
returns-then-n-eq0 c = changes_nowhere _ _ _ _ _ c.room-n.ensures.1 c.if-n-eq0.true _ _ (λ _. refl)

pub changes_in-requires : goal.changes_in-requires
changes_in-requires c = c.room-n.ensures.0 c.if-n-eq0.false

pub returns : goal.returns
returns c = changes_whole _ _ _ _ _ c.room-n.ensures.1 _ _ c.changes_in.ensures
