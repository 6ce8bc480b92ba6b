-- `tree::sync_in` meets its contract.
use Rattle.state.proofs.TreeSteps.{tree_laid}
use Rattle.tree.proofs.SyncLaws.{sync_done}
use Rattle.tree.proofs.sync_in.Goals as goal

pub settle-requires : goal.settle-requires
settle-requires c = tree_laid _ _ _ c.gather.ensures.only c.requires

pub release-requires : goal.release-requires
release-requires c = tree_laid _ _ _ c.settle.ensures.only (tree_laid _ _ _ c.gather.ensures.only c.requires)

pub returns : goal.returns
returns c = sync_done _ _ _ _ _ _ c.gather.ensures c.settle.ensures c.release.ensures c.note.ensures
