-- `values::read` meets its contract.
use mathlib.Core.Path.{refl}
use Rattle.values.proofs.ValueLaws.{value_none, value_some}
use Rattle.values.proofs.read.Goals as goal

pub returns-then-kind-eq0 : goal.returns-then-kind-eq0
returns-then-kind-eq0 c = value_none c.args.mem.now c.args.at c.if-kind-eq0.true

pub returns : goal.returns
returns c = value_some c.args.mem.now c.args.at _ _ _ _ refl c.if-kind-eq0.false refl refl c.from_words-work.ensures.exact
