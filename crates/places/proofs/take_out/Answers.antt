-- `places::take_out` meets its contract.
use Rattle.places.proofs.StepLaws.{takeout_done, takeout_not}
use Rattle.places.proofs.take_out.Goals as goal

pub returns-then-store-gt2 : goal.returns-then-store-gt2
returns-then-store-gt2 c = takeout_not _ _ _ _ c.requires.0 c.if-store-gt2.true

pub returns : goal.returns
returns c = takeout_done _ _ _ _ _ _ _ _ _ c.requires.0 c.requires.1 c.if-store-gt2.false c.drop_copy.ensures c.status-was.ensures c.status-is.ensures c.tally.ensures c.add.ensures
