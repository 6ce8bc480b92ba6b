-- `rows::effective_at` meets its contract.
use Rattle.rows.proofs.RowLaws.{effective_active, effective_forks, effective_canon}
use Rattle.rows.proofs.effective_at.Goals as goal

pub returns-then-mem-at-ne0 : goal.returns-then-mem-at-ne0
returns-then-mem-at-ne0 c = effective_active c.args.mem.now c.args.at c.if-mem-at-ne0.true

pub returns-then-mem-at-ne0-2 : goal.returns-then-mem-at-ne0-2
returns-then-mem-at-ne0-2 c = effective_forks c.args.mem.now c.args.at c.if-mem-at-ne0.false c.if-mem-at-ne0-2.true

pub returns : goal.returns
returns c = effective_canon c.args.mem.now c.args.at c.if-mem-at-ne0.false c.if-mem-at-ne0-2.false
