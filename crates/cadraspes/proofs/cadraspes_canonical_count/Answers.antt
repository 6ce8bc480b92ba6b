-- `cadraspes::cadraspes_canonical_count` meets its contract.
use Rattle.cadraspes.proofs.TreeLaws.{tree_counts}
use Rattle.cadraspes.proofs.cadraspes_canonical_count.Goals as goal

pub returns : goal.returns
returns c = tree_counts c.tell_count.ensures c.canonical_count.ensures
