-- `extending::rival_code` meets its contract.
use native.Mathlib.Omega.{arith}
use Rattle.extending.proofs.LevelLaws.{rival_none, rival_same, rival_other}
use Rattle.extending.proofs.rival_code.Goals as goal

pub returns-then-n-s : goal.returns-then-n-s
returns-then-n-s c = let a = c.args in record { some = omega arith; right = λ v. rival_none a.mem.now a.n a.s a.i c.if-n-s.true }

pub returns-then-mem-s : goal.returns-then-mem-s
returns-then-mem-s c = let a = c.args in record { some = omega arith; right = λ v. rival_same a.mem.now a.n a.s a.i (omega arith) v c.if-mem-s.true }

pub returns : goal.returns
returns c = let a = c.args in record { some = omega arith; right = λ v. rival_other a.mem.now a.n a.s a.i (omega arith) v c.if-mem-s.false }
