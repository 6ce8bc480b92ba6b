-- `block::headers::same_reading` meets its contract. What `amount::compare` promises is the test of equality.
use mathlib.Core.Path.{sym, ◌∙◌, ap}
use Rattle.amount.specs.Value.{value, is_equal}
use Rattle.amount.proofs.Promises.{tests}
use Rattle.block.proofs.headers.same_reading.Goals as goal

pub returns-in-Equal : goal.returns-in-Equal
returns-in-Equal c = rw (c.in-Readable.is, c.in-Readable-b.is) (sym ((tests (value c.in-Readable.x) (value c.in-Readable-b.y) c.compare.result c.compare.ensures).equal_is ∙ ap is_equal c.in-Equal.is))

pub returns-in-Less : goal.returns-in-Less
returns-in-Less c = rw (c.in-Readable.is, c.in-Readable-b.is) (sym ((tests (value c.in-Readable.x) (value c.in-Readable-b.y) c.compare.result c.compare.ensures).equal_is ∙ ap is_equal c.in-Less.is))

pub returns-in-Greater : goal.returns-in-Greater
returns-in-Greater c = rw (c.in-Readable.is, c.in-Readable-b.is) (sym ((tests (value c.in-Readable.x) (value c.in-Readable-b.y) c.compare.result c.compare.ensures).equal_is ∙ ap is_equal c.in-Greater.is))
