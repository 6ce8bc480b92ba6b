-- `boundary::telling::tell_tip` meets its contract.
use Rattle.boundary.proofs.ToldTreeLaws.{tells_best, tells_no_best, tells_no_tip}
use Rattle.boundary.proofs.telling.tell_tip.Goals as goal

pub returns-in-Best : goal.returns-in-Best
returns-in-Best c = tells_best c.in-Best.is c.tell_shown.ensures c.tell_worth.ensures

pub returns-in-None : goal.returns-in-None
returns-in-None c = tells_no_best c.in-None.is c.tell_shown-in-None.ensures c.tell_worth-in-None.ensures

pub returns-in-Refused : goal.returns-in-Refused
returns-in-Refused c = tells_no_tip _ _ c.in-Refused.is c.refusal_number.ensures
