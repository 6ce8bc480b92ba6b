-- `kin::kin_of` meets its contract.
use Rattle.kin.proofs.KinLaws.{kin_unlinked, kin_here, kin_none}
use Rattle.kin.proofs.kin_of.Goals as goal

pub returns-then-mem-p-eq0 : goal.returns-then-mem-p-eq0
returns-then-mem-p-eq0 c = kin_unlinked _ _ _ c.if-mem-p-eq0.true

pub returns-then-u-n : goal.returns-then-u-n
returns-then-u-n c = kin_here _ _ _ c.if-mem-p-eq0.false c.if-u-n.true

pub returns : goal.returns
returns c = kin_none _ _ _ c.if-mem-p-eq0.false c.if-u-n.false
