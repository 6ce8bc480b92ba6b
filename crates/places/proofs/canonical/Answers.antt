-- `places::canonical` meets its contract.
use mathlib.Core.Path.{sym, ap, ◌∙◌}
use native.Mathlib.Omega.{arith}
use Rattle.model.specs.Holding.{is_canonical}
use Rattle.state.proofs.FindLaws.{used_is, free_is}
use Rattle.places.proofs.canonical.Goals as goal

pub returns-then-mem-at-ne1 : goal.returns-then-mem-at-ne1
unfolding is_canonical
returns-then-mem-at-ne1 c = ap is_canonical (sym (free_is c.args.mem.now _ _ (omega arith) c.if-mem-at-ne1.true))

pub returns : goal.returns
returns c = c.is_canonical.ensures ∙ sym c.status.ensures.canonical ∙ ap is_canonical (sym (used_is c.args.mem.now _ _ (omega arith) c.if-mem-at-ne1.false))
