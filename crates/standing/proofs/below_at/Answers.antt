-- `standing::below_at` meets its contract.
use mathlib.Core.Path.{◌∙◌}
use Rattle.values.specs.Values.{spine_of}
use Rattle.standing.proofs.WorkLaws.{below_none, below_winner, below_canonical}
use Rattle.standing.proofs.below_at.Goals as goal

pub returns-then-n-q : goal.returns-then-n-q
returns-then-n-q c = let a = c.args in below_none a.mem.now a.n a.q (spine_of a.canonical) c.if-n-q.true

pub returns-then-canonical : goal.returns-then-canonical
returns-then-canonical c = let a = c.args in rw c.if-canonical.true (c.read.ensures ∙ below_canonical a.mem.now a.n a.q c.if-n-q.false)

pub returns : goal.returns
returns c = let a = c.args in rw c.if-canonical.false (c.read-2.ensures ∙ below_winner a.mem.now a.n a.q c.if-n-q.false)
