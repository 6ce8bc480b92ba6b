-- `standing::on_parent` meets its contract.
use Rattle.amount.specs.Value.{value}
use Prim.Native.Nat.{◌+◌}
use Rattle.amount.proofs.Promises.{on_fits, on_too_large}
use Rattle.standing.proofs.WorkLaws.{parent_over, parent_sum}
use Rattle.standing.proofs.on_parent.Goals as goal

pub returns-in-None : goal.returns-in-None
returns-in-None c = λ b e. rw c.in-None.is

pub returns-in-TooLarge : goal.returns-in-TooLarge
returns-in-TooLarge c = λ b e. let a = value c.args.actual in let w = value c.in-Linked.work in rw c.in-Linked.is (parent_over b a w c.in-Linked.ok (on_too_large (w + a) c.add.ensures c.in-TooLarge.is))

pub returns-then-ok : goal.returns-then-ok
returns-then-ok c = λ b e. let a = value c.args.actual in let w = value c.in-Linked.work in let f = on_fits (w + a) c.add.ensures c.in-Fits.is in rw c.in-Linked.is (parent_sum b a w (value c.in-Fits.sum) c.in-Linked.ok c.args.met c.args.met e f.0 f.1 (rw c.if-ok.true))

pub returns-else-ok : goal.returns-else-ok
returns-else-ok c = λ b e. let a = value c.args.actual in let w = value c.in-Linked.work in let f = on_fits (w + a) c.add.ensures c.in-Fits.is in rw c.in-Linked.is (parent_sum b a w (value c.in-Fits.sum) c.in-Linked.ok c.args.met c.in-Linked.ok e f.0 f.1 (rw c.if-ok.false))
