-- `rows::read_header` meets its contract.
use Rattle.rows.proofs.RowLaws.{header_groups}
use Rattle.rows.specs.Rows.{header_at}
use mathlib.Core.Path.{◌∙◌, sym}
use Rattle.rows.proofs.read_header.Goals as goal

pub returns : goal.returns
unfolding header_at
returns c = c.header_of.ensures ∙ sym (header_groups c.read_four-h.ensures c.read_four-v.ensures c.read_four-i.ensures c.read_four-w.ensures)
