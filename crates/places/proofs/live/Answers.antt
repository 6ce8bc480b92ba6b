-- `places::live` meets its contract.
use mathlib.Core.Path.{sym, ap, ◌∙◌}
use native.Mathlib.Omega.{arith}
use Rattle.model.specs.Holding.{is_live}
use Rattle.state.proofs.FindLaws.{used_is, free_is}
use Rattle.places.proofs.live.Goals as goal

pub returns-then-mem-at-ne1 : goal.returns-then-mem-at-ne1
unfolding is_live
returns-then-mem-at-ne1 c = ap is_live (sym (free_is c.args.mem.now _ _ (omega arith) c.if-mem-at-ne1.true))

pub returns : goal.returns
returns c = c.is_live.ensures ∙ sym c.status.ensures.live ∙ ap is_live (sym (used_is c.args.mem.now _ _ (omega arith) c.if-mem-at-ne1.false))
