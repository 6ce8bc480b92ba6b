-- `standing::parent` meets its contract: the place of the previous hash, if its index is one less and it is live.
use mathlib.Core.Path.{sym, ◌∙◌}
use native.Mathlib.Omega.{arith}
use Rattle.standing.proofs.ParentLaws.{parent_free, parent_out, parent_odd, parent_dead, parent_is}
use Rattle.standing.proofs.parent.Goals as goal

pub returns-then-mem-at-ne1 : goal.returns-then-mem-at-ne1
returns-then-mem-at-ne1 c = λ s. let a = c.args in parent_free a.mem.now a.n a.p (omega arith) c.if-mem-at-ne1.true

pub returns-then-n-q : goal.returns-then-n-q
returns-then-n-q c = λ s. let a = c.args in parent_out a.mem.now a.n a.p (omega arith) c.if-mem-at-ne1.false s _ (c.named-q.ensures s) c.if-n-q.true

pub returns-then-not-one_less : goal.returns-then-not-one_less
returns-then-not-one_less c = λ s. let a = c.args in parent_odd a.mem.now a.n a.p (omega arith) c.if-mem-at-ne1.false s _ (c.named-q.ensures s) c.if-n-q.false (sym c.one_less.ensures ∙ c.if-not-one_less.true)

pub returns-then-not-live : goal.returns-then-not-live
returns-then-not-live c = λ s. let a = c.args in parent_dead a.mem.now a.n a.p (omega arith) c.if-mem-at-ne1.false s _ (c.named-q.ensures s) c.if-n-q.false (sym c.live.ensures ∙ c.if-not-live.true)

pub returns : goal.returns
returns c = λ s. let a = c.args in parent_is a.mem.now a.n a.p (omega arith) c.if-mem-at-ne1.false s _ (c.named-q.ensures s) c.if-n-q.false (sym c.one_less.ensures ∙ c.if-not-one_less.false) (sym c.live.ensures ∙ c.if-not-live.false)
