-- `pending::add_if_live` meets its contract.
use mathlib.Core.Path.{sym, ◌∙◌}
use Rattle.pending.proofs.TurnLaws.{one_live}
use Rattle.pending.proofs.add_if_live.Goals as goal

pub returns-then-live : goal.returns-then-live
returns-then-live c = one_live _ _ _ _ (sym c.live.ensures ∙ c.if-live.true) c.add.ensures
