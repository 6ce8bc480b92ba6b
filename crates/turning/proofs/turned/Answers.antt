-- `turning::turned` meets its contract.
use mathlib.Core.Path.{sym, ◌∙◌}
use native.Mathlib.Omega.{arith}
use Rattle.turning.proofs.TurnedLaws.{into_at, into_plain}
use Rattle.turning.proofs.turned.Goals as goal

pub returns-then-c-eq8 : goal.returns-then-c-eq8
returns-then-c-eq8 c = λ s l u. let a = c.args in rw c.in-Into.is (into_at a.mem.now a.n a.top a.k a.q (omega arith) _ _ (sym c.code-c.ensures ∙ c.if-c-eq8.true))

pub returns-else-c-eq8 : goal.returns-else-c-eq8
returns-else-c-eq8 c = λ s l u. let a = c.args in rw c.in-Into.is (c.code-c.ensures ∙ into_plain a.mem.now a.n a.top a.k a.q (omega arith) _ _ (λ z. c.if-c-eq8.false (c.code-c.ensures ∙ z)))
