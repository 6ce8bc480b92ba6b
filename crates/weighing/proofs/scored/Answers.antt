-- `weighing::scored` meets its contract.
use Rattle.weighing.proofs.scored.Goals as goal

pub returns-then-ok : goal.returns-then-ok
returns-then-ok c = rw (c.in-Linked.is, c.if-ok.true)

pub returns-in-Linked : goal.returns-in-Linked
returns-in-Linked c = rw (c.in-Linked.is, c.if-ok.false)
