-- `turning::climbed` meets its contract.
use mathlib.Core.Path.{sym, ◌∙◌}
use Rattle.turning.proofs.ClimbLaws.{climbed_down, climbed_off, climbed_stays, climbed_up}
use Rattle.turning.proofs.climbed.Goals as goal

pub returns-then-not-up : goal.returns-then-not-up
returns-then-not-up c = let a = c.args in climbed_down a.mem.now a.n a.q a.up _ (c.if-not-up.true)

pub returns-then-c-eq2 : goal.returns-then-c-eq2
returns-then-c-eq2 c = let a = c.args in climbed_off a.mem.now a.n a.q a.up _ (c.if-not-up.false) (sym c.code-c.ensures ∙ c.if-c-eq2.true)

pub returns-then-canonical : goal.returns-then-canonical
returns-then-canonical c = let a = c.args in c.code-c.ensures ∙ climbed_stays a.mem.now a.n a.q a.up _ (c.if-not-up.false) (λ z. c.if-c-eq2.false (c.code-c.ensures ∙ z)) (sym c.canonical.ensures ∙ c.if-canonical.true)

pub returns : goal.returns
returns c = let a = c.args in climbed_up a.mem.now a.n a.q a.up _ (c.if-not-up.false) (λ z. c.if-c-eq2.false (c.code-c.ensures ∙ z)) (sym c.canonical.ensures ∙ c.if-canonical.false)
