-- `rows::write_header` meets its contract: four groups of four.
use Rattle.rows.proofs.RowLaws.{header_done}
use Rattle.rows.proofs.write_header.Goals as goal

pub returns : goal.returns
returns c = header_done _ _ _ _ _ _ _ _ _ _ _ c.header_words-words.ensures c.four.ensures c.four-2.ensures c.four-3.ensures c.four-4.ensures
