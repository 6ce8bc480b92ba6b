-- `standing::may` meets its contract.
use mathlib.Core.Path.{sym, ◌∙◌}
use native.Mathlib.Omega.{arith}
use Rattle.standing.proofs.WorkLaws.{may_canonical, may_dead, may_live}
use Rattle.standing.proofs.may.Goals as goal

pub returns-then-canonical : goal.returns-then-canonical
returns-then-canonical c = rw c.if-canonical.true (c.canonical.ensures ∙ may_canonical _)

pub returns-then-not-live : goal.returns-then-not-live
returns-then-not-live c = rw c.if-canonical.false (may_dead _ (sym c.live.ensures ∙ c.if-not-live.true))

pub returns : goal.returns
returns c = rw c.if-canonical.false (may_live c.args.mem.now _ _ (omega arith) (sym c.live.ensures ∙ c.if-not-live.false))
