-- `cadraspes::cadraspes_best` meets its contract.
use Rattle.cadraspes.proofs.TreeLaws.{tree_tips}
use Rattle.cadraspes.proofs.cadraspes_best.Goals as goal

pub returns : goal.returns
returns c = tree_tips c.tell_tip.ensures c.best.ensures
