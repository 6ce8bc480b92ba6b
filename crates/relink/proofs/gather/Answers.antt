-- `relink::gather` meets its contract.
use mathlib.Core.Path.{sym, ◌∙◌}
use Rattle.relink.proofs.GatherLaws.{gathers_first, gathers_none, gathers_changes}
use Rattle.relink.proofs.gather.Goals as goal

pub returns-then-mem-eq0 : goal.returns-then-mem-eq0
returns-then-mem-eq0 c = gathers_first _ _ _ c.if-mem-eq0.true c.rebuild.ensures

pub returns-in-None : goal.returns-in-None
returns-in-None c = gathers_none _ _ _ c.if-mem-eq0.false (λ s. sym c.in-None.is ∙ c.changes_had.ensures s.journal) c.rebuild-in-None.ensures

pub returns-in-Count : goal.returns-in-Count
returns-in-Count c = gathers_changes _ _ _ _ c.requires c.if-mem-eq0.false (λ s. sym c.in-Count.is ∙ c.changes_had.ensures s.journal) c.add_changed.ensures
