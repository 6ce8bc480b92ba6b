-- `standing::on_actual` meets its contract.
use mathlib.Core.Path.{◌∙◌}
use Rattle.amount.specs.Value.{value}
use Rattle.values.specs.Values.{value_means}
use Rattle.standing.proofs.WorkLaws.{actual_root, actual_above}
use Rattle.standing.proofs.on_actual.Goals as goal

pub returns-in-Unreadable : goal.returns-in-Unreadable
returns-in-Unreadable c = λ b e f. rw c.in-Unreadable.is

pub returns-then-index-eq0 : goal.returns-then-index-eq0
returns-then-index-eq0 c = λ b e f. rw c.in-Readable.is (actual_root b (value c.in-Readable.a) c.args.index (value_means c.args.below) e c.if-index-eq0.true)

pub returns-in-Readable : goal.returns-in-Readable
returns-in-Readable c = λ b e f. rw c.in-Readable.is (c.on_parent.ensures b f ∙ actual_above b (value c.in-Readable.a) c.args.index (value_means c.args.below) e c.if-index-eq0.false)
