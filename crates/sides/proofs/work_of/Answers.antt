-- `sides::work_of` meets its contract.
use Rattle.sides.proofs.work_of.Goals as goal

pub returns-in-None : goal.returns-in-None
returns-in-None c = rw c.in-None.is c.zero.ensures.exact

pub returns-in-Linked : goal.returns-in-Linked
returns-in-Linked c = rw c.in-Linked.is
