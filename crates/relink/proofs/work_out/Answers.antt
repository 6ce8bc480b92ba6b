-- `relink::work_out` meets its contract.
use mathlib.Core.Path.{sym, ap, ◌∙◌}
use mathlib.Core.Bool.{◌||◌}
use Rattle.relink.proofs.WorkLaws.{works_out}
use Rattle.relink.proofs.work_out.Goals as goal

pub returns-then-moved : goal.returns-then-moved
returns-then-moved c = works_out _ _ _ _ _ _ _ _ _ _ c.requires.0 c.requires.1 c.parent-q.ensures c.work_out-a.ensures c.work_out-b.ensures c.put_winner-moved.ensures c.put_canonical-shifted.ensures c.put_winner-moved.result (c.if-moved.true ∙ ap (λ z. z || c.put_canonical-shifted.result) (sym c.if-moved.true))

pub returns-else-moved : goal.returns-else-moved
returns-else-moved c = works_out _ _ _ _ _ _ _ _ _ _ c.requires.0 c.requires.1 c.parent-q.ensures c.work_out-a.ensures c.work_out-b.ensures c.put_winner-moved.ensures c.put_canonical-shifted.ensures _ (ap (λ z. z || c.put_canonical-shifted.result) (sym c.if-moved.false))
