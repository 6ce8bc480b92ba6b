-- `roster::at` meets its contract.
use native.Mathlib.Omega.{arith}
use Rattle.roster.proofs.RosterLaws.{member_read, member_over}
use Rattle.roster.proofs.at.Goals as goal

pub returns-then-q-n : goal.returns-then-q-n
returns-then-q-n c = let a = c.args in member_read a.mem.now a.n a.list a.i (omega arith)

pub returns : goal.returns
returns c = let a = c.args in member_over a.mem.now a.n a.list a.i (omega arith) (omega arith)
