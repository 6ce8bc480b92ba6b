-- `cadraspes::cadraspes_node` meets its contract.
use mathlib.Core.Path.{ap}
use Rattle.model.specs.Questions.{node}
use Rattle.cadraspes.proofs.TreeLaws.{tree_shows}
use Rattle.cadraspes.proofs.cadraspes_node.Goals as goal

pub returns : goal.returns
returns c = tree_shows (ap node c.from_bytes-h.ensures) c.tell_shown.ensures c.node.ensures
