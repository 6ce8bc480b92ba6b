-- `plans::put` meets its contract.
use Rattle.plans.proofs.PutLaws.{put_is}
use Rattle.plans.proofs.put.Goals as goal

pub returns : goal.returns
returns c = put_is _ _ _ _ _ _ _ c.four.ensures c.four-2.ensures c.four-3.ensures c.four-4.ensures
