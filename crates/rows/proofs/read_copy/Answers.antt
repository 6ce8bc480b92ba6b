-- `rows::read_copy` meets its contract.
use Rattle.rows.proofs.RowLaws.{copy_groups}
use Rattle.rows.specs.Rows.{copy_at}
use mathlib.Core.Path.{◌∙◌, sym}
use Rattle.rows.proofs.read_copy.Goals as goal

pub returns : goal.returns
unfolding copy_at
returns c = c.copy_of.ensures ∙ sym (copy_groups c.read_four-s.ensures c.read_four-r.ensures c.read_four-c.ensures)
