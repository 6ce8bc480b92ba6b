-- `turning::turn_off` meets its contract.
use mathlib.Core.Path.{sym, ◌∙◌}
use native.Mathlib.Omega.{arith}
use Rattle.turning.proofs.TurnedLaws.{off_plain, off_on, off_not}
use Rattle.turning.proofs.turn_off.Goals as goal

pub returns-then-not-canonical : goal.returns-then-not-canonical
returns-then-not-canonical c = λ s l. let a = c.args in c.code-c.ensures ∙ off_plain a.mem.now a.n a.top a.k a.q (omega arith) a.floor _ (sym c.canonical.ensures ∙ c.if-not-canonical.true)

pub returns-then-on_line : goal.returns-then-on_line
returns-then-on_line c = λ s l. let a = c.args in c.code-c.ensures ∙ off_on a.mem.now a.n a.top a.k a.q (omega arith) a.floor _ (sym c.canonical.ensures ∙ c.if-not-canonical.false) (λ s u l. sym c.if-on_line.true ∙ c.on_line.ensures s u l) s l

pub returns : goal.returns
returns c = λ s l. let a = c.args in off_not a.mem.now a.n a.top a.k a.q (omega arith) a.floor _ _ (sym c.canonical.ensures ∙ c.if-not-canonical.false) (λ s u l. sym c.if-on_line.false ∙ c.on_line.ensures s u l) c.off_code.ensures s l
