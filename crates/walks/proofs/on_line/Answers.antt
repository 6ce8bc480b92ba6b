-- `walks::on_line` meets its contract: a place on the walk is noted at its distance from the top, and what is noted is on the walk.
use native.Mathlib.Omega.{arith}
use Rattle.walks.proofs.OnLaws.{on_higher, on_past, on_at}
use Rattle.walks.proofs.on_line.Goals as goal

pub returns-then-high-low : goal.returns-then-high-low
returns-then-high-low c = λ s u l. let a = c.args in on_higher a.mem.now a.n a.top a.k a.q (omega arith) (omega arith) s u l c.if-high-low.true

pub returns-then-k-d : goal.returns-then-k-d
returns-then-k-d c = λ s u l. let a = c.args in on_past a.mem.now a.n a.top a.k a.q (omega arith) (omega arith) s u l c.if-k-d.true

pub returns : goal.returns
returns c = λ s u l. let a = c.args in on_at a.mem.now a.n a.top a.k a.q (omega arith) (omega arith) s u l (omega arith)
