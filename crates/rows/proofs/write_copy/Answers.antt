-- `rows::write_copy` meets its contract: three groups of four.
use Rattle.rows.proofs.RowLaws.{copy_done}
use Rattle.rows.proofs.write_copy.Goals as goal

pub returns : goal.returns
returns c = copy_done _ _ _ _ _ _ _ _ _ c.copy_words-words.ensures c.four.ensures c.four-2.ensures c.four-3.ensures
