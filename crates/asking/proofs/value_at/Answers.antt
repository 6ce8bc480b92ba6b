-- `asking::value_at` meets its contract.
use mathlib.Core.Path.{◌∙◌}
use Rattle.values.specs.Values.{spine_of}
use Rattle.standing.proofs.WorkLaws.{below_none, below_winner, below_canonical}
use Rattle.asking.proofs.value_at.Goals as goal

pub returns-then-n-p : goal.returns-then-n-p
returns-then-n-p c = let a = c.args in below_none a.mem.now a.n a.p (spine_of a.canonical) c.if-n-p.true

pub returns-then-canonical : goal.returns-then-canonical
returns-then-canonical c = let a = c.args in rw c.if-canonical.true (c.read.ensures ∙ below_canonical a.mem.now a.n a.p c.if-n-p.false)

pub returns : goal.returns
returns c = let a = c.args in rw c.if-canonical.false (c.read-2.ensures ∙ below_winner a.mem.now a.n a.p c.if-n-p.false)
