-- `values::same` meets its contract. Each arm is one case of the definition.
use Rattle.values.proofs.same.Goals as goal

pub returns-in-Linked-b-2 : goal.returns-in-Linked-b-2
returns-in-Linked-b-2 c = rw (c.in-Linked.is, c.in-Linked-b-2.is) c.same_work.ensures
