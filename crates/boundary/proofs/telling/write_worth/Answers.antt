-- `boundary::telling::write_worth` meets its contract.
use mathlib.Core.Path.{refl}
use Rattle.boundary.proofs.ToldTreeLaws.{tells_linked, tells_unlinked, tells_no_worth}
use Rattle.boundary.proofs.telling.write_worth.Goals as goal

pub returns-in-Linked : goal.returns-in-Linked
returns-in-Linked c = tells_linked c.args.out.now _ _ _ _ _ _ c.requires (record { now_is = refl }) (record { now_is = refl }) (record { now_is = refl }) c.in-Linked.is c.kind_of.ensures c.to_words-w.ensures

pub returns-in-None : goal.returns-in-None
returns-in-None c = tells_unlinked c.args.out.now _ _ _ _ _ _ c.requires (record { now_is = refl }) (record { now_is = refl }) (record { now_is = refl }) c.in-None.is refl refl refl

pub returns-in-Refused : goal.returns-in-Refused
returns-in-Refused c = tells_no_worth _ c.in-Refused.is c.refusal_number.ensures
