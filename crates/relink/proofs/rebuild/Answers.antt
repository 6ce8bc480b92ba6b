-- `relink::rebuild` meets its contract.
use Rattle.relink.proofs.GatherLaws.{rebuild_done}
use Rattle.relink.proofs.rebuild.Goals as goal

pub returns : goal.returns
returns c = rebuild_done _ _ _ _ c.requires c.reset.ensures c.add_live.ensures
