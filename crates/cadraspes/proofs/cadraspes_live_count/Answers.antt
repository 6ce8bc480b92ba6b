-- `cadraspes::cadraspes_live_count` meets its contract.
use Rattle.cadraspes.proofs.TreeLaws.{tree_counts}
use Rattle.cadraspes.proofs.cadraspes_live_count.Goals as goal

pub returns : goal.returns
returns c = tree_counts c.tell_count.ensures c.live_count.ensures
