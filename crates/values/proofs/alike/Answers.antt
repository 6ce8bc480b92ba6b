-- `values::alike` meets its contract.
use Rattle.values.proofs.ValueLaws.{beq-true}
use Rattle.values.proofs.alike.Goals as goal

pub returns-then-s : goal.returns-then-s
returns-then-s c = rw c.if-s.true (beq-true _)
