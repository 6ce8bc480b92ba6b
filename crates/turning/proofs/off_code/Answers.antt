-- `turning::off_code` meets its contract.
use mathlib.Core.Path.{sym, ◌∙◌}
use Rattle.turning.proofs.off_code.Goals as goal

pub returns-then-under : goal.returns-then-under
returns-then-under c = let e = sym c.under.ensures ∙ c.if-under.true in rw e

pub returns : goal.returns
returns c = let e = sym c.under.ensures ∙ c.if-under.false in rw e
