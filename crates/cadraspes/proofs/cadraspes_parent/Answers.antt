-- `cadraspes::cadraspes_parent` meets its contract.
use mathlib.Core.Path.{ap}
use Rattle.model.specs.Questions.{parent_q}
use Rattle.cadraspes.proofs.TreeLaws.{tree_shows}
use Rattle.cadraspes.proofs.cadraspes_parent.Goals as goal

pub returns : goal.returns
returns c = tree_shows (ap parent_q c.from_bytes-h.ensures) c.tell_shown.ensures c.parent.ensures
