-- `turning::put` meets its contract.
use Rattle.turning.proofs.PassLaws.{put_none, put_some}
use Rattle.turning.proofs.put.Goals as goal

pub returns-then-c-eq0 : goal.returns-then-c-eq0
returns-then-c-eq0 c = put_none _ _ _ _ _ c.if-c-eq0.true c.unwrite.ensures

pub returns-else-c-eq0 : goal.returns-else-c-eq0
returns-else-c-eq0 c = put_some _ _ _ _ _ c.if-c-eq0.false c.write.ensures
