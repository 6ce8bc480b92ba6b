-- `relink::reset` meets its contract.
use Rattle.relink.proofs.ResetLaws.{reset_done}
use Rattle.relink.proofs.reset.Goals as goal

pub returns : goal.returns
returns c = reset_done _ _ _ _ _ _ c.requires c.wipe.ensures c.clear.ensures c.clear-2.ensures c.clear-3.ensures
