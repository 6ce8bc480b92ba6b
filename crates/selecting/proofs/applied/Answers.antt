-- `selecting::applied` meets its contract.
use Rattle.selecting.proofs.applied.Goals as goal

pub returns-then-demoted : goal.returns-then-demoted
returns-then-demoted c = rw c.if-demoted.true

pub returns : goal.returns
returns c = rw c.if-demoted.false
