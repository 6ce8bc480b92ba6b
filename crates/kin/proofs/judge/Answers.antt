-- `kin::judge` meets its contract.
use native.Mathlib.Omega.{arith}
use Rattle.kin.proofs.KinLaws.{judged_nowhere, judged_unlinked, judged_parent, judged_leaf}
use Rattle.kin.proofs.judge.Goals as goal

pub returns-then-n-x : goal.returns-then-n-x
returns-then-n-x c = judged_nowhere _ _ _ c.if-n-x.true

pub returns-then-mem-x-eq0 : goal.returns-then-mem-x-eq0
returns-then-mem-x-eq0 c = judged_unlinked _ _ _ _ c.requires.some c.drop.ensures c.if-mem-x-eq0.true

pub returns-then-mem-x-ne0 : goal.returns-then-mem-x-ne0
returns-then-mem-x-ne0 c = judged_parent _ _ _ _ c.requires.some c.drop-then-mem-x-ne0.ensures c.if-mem-x-ne0.true

pub returns : goal.returns
returns c = judged_leaf _ _ _ _ c.requires.some (omega arith) c.add.ensures c.if-mem-x-eq0.false c.if-mem-x-ne0.false
