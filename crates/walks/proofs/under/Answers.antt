-- `walks::under` meets its contract.
use Rattle.walks.proofs.under.Goals as goal

pub returns-in-At : goal.returns-in-At
returns-in-At c = rw c.in-At.is
