-- `places::replace` meets its contract.
use Rattle.places.proofs.StepLaws.{replace_done, replace_not}
use Rattle.places.proofs.replace.Goals as goal

pub returns-then-store-gt2 : goal.returns-then-store-gt2
returns-then-store-gt2 c = λ b e. replace_not _ _ _ _ b c.requires.0 c.if-store-gt2.true

pub returns : goal.returns
returns c = λ b e. replace_done _ _ _ _ _ _ _ _ _ c.requires.0 c.requires.1 c.if-store-gt2.false c.write_copy.ensures c.status-was.ensures c.status-is.ensures c.tally.ensures b e
