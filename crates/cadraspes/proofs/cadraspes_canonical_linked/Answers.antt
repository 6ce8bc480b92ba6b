-- `cadraspes::cadraspes_canonical_linked` meets its contract.
use mathlib.Core.Path.{ap}
use Rattle.model.specs.Questions.{canonical_linked_q}
use Rattle.cadraspes.proofs.TreeLaws.{tree_worths}
use Rattle.cadraspes.proofs.cadraspes_canonical_linked.Goals as goal

pub returns : goal.returns
returns c = tree_worths (ap canonical_linked_q c.from_bytes-h.ensures) c.tell_worth.ensures c.canonical_linked.ensures
