-- `asking::node_in` meets its contract.
use Rattle.asking.proofs.TreeAskLaws.{nodes}
use Rattle.asking.proofs.node_in.Goals as goal

pub returns : goal.returns
returns c = nodes _ _ _ _ c.find-p.ensures _ _ c.show_live.ensures.number c.show_live.ensures.reply
