-- `turning::turn_near` meets its contract.
use mathlib.Core.Path.{refl, sym, ◌∙◌}
use native.Mathlib.Omega.{arith}
use mathlib.Core.Bool.{true, false}
use Rattle.model.proofs.Tools.{no_both}
use Rattle.turning.proofs.TurnedLaws.{near_plain, near_at}
use Rattle.turning.proofs.turn_near.Goals as goal

pub returns-then-c-ne8 : goal.returns-then-c-ne8
returns-then-c-ne8 c = λ s l u. let a = c.args in c.code-c.ensures ∙ near_plain a.mem.now a.n a.top a.k a.q (omega arith) _ (λ z. c.if-c-ne8.true (c.code-c.ensures ∙ z))

pub returns-then-on_line : goal.returns-then-on_line
returns-then-on_line c = λ s l u. let a = c.args in near_at a.mem.now a.n a.top a.k a.q (omega arith) _ true 0 (sym c.code-c.ensures ∙ c.if-c-ne8.false) (λ s u l. sym c.if-on_line.true ∙ c.on_line.ensures s u l) (λ e. refl, λ e. no_both true refl e) u s l

pub returns : goal.returns
returns c = λ s l u. let a = c.args in near_at a.mem.now a.n a.top a.k a.q (omega arith) _ false 8 (sym c.code-c.ensures ∙ c.if-c-ne8.false) (λ s u l. sym c.if-on_line.false ∙ c.on_line.ensures s u l) (λ e. no_both false e refl, λ e. refl) u s l
