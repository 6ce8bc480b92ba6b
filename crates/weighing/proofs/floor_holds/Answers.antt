-- `weighing::floor_holds` meets its contract.
use Rattle.pending.proofs.PendLaws.{or_true}
use Rattle.model.proofs.Tools.{or_none}
use mathlib.Core.Path.{sym, ◌∙◌}
use mathlib.Core.Bool.{◌&&◌}
use lib.Dec.{ltb}
use Rattle.weighing.proofs.floor_holds.Goals as goal

pub returns-then-stray : goal.returns-then-stray
returns-then-stray c = let a = c.args in rw (c.in-At.is, c.if-stray.true) (sym (or_true (ltb a.fork c.in-At.i && ltb a.fork a.local)))

pub returns-in-At : goal.returns-in-At
returns-in-At c = rw (c.in-At.is, c.if-stray.false) (c.below.ensures ∙ sym (or_none _))
