-- `roster::count` meets its contract.
use native.Mathlib.Omega.{arith}
use Rattle.roster.proofs.RosterLaws.{size_read, size_over}
use Rattle.roster.proofs.count.Goals as goal

pub returns-then-z-n : goal.returns-then-z-n
returns-then-z-n c = let a = c.args in size_read a.mem.now a.n a.size (omega arith)

pub returns : goal.returns
returns c = let a = c.args in size_over a.mem.now a.n a.size (omega arith)
