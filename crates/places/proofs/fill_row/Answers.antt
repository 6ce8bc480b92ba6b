-- `places::fill_row` meets its contract.
use Rattle.places.proofs.FillLaws.{fill_done}
use Rattle.places.proofs.fill_row.Goals as goal
use Rattle.places.proofs.fill_row.Goals.{After-open}

pub returns : goal.returns
returns c = fill_done _ _ _ _ _ _ c.requires.0 _ _ (goal.at.returns c).After-open.«open».ensures c.write_header.ensures c.write_copy.ensures
