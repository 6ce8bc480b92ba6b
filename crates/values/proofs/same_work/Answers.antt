-- `values::same_work` meets its contract. What `amount::compare` promises is the test of equality.
use Rattle.amount.specs.Value.{value}
use Rattle.amount.proofs.Promises.{on_less, on_equal, on_greater}
use Rattle.values.proofs.same_work.Goals as goal

pub returns-in-Less : goal.returns-in-Less
returns-in-Less c = rw (on_less (value c.args.x) (value c.args.y) c.compare.ensures c.in-Less.is).equal_is

pub returns-in-Equal : goal.returns-in-Equal
returns-in-Equal c = rw (on_equal (value c.args.x) (value c.args.y) c.compare.ensures c.in-Equal.is).equal_is c.alike.ensures

pub returns-in-Greater : goal.returns-in-Greater
returns-in-Greater c = rw (on_greater (value c.args.x) (value c.args.y) c.compare.ensures c.in-Greater.is).equal_is
