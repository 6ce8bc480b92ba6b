-- `block::words::why_of` meets its contract. Each arm is one case of the definition.
use borrow.Author.Tests.{ne_eqb}
use mathlib.Core.Option.{some}
use mathlib.Core.Path.{ap}
use Rattle.block.specs.Words.{why_of}
use Rattle.block.proofs.words.why_of.Goals as goal

pub returns-then-kind-eq0 : goal.returns-then-kind-eq0
unfolding why_of
returns-then-kind-eq0 c = rw c.if-kind-eq0.true

pub returns : goal.returns
unfolding why_of
returns c = rw (ne_eqb c.args.kind 0 c.if-kind-eq0.false) (ap some c.reason_of.ensures)
