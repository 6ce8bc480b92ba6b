-- `places::admit` meets its contract.
use Rattle.places.proofs.AdmitLaws.{admit_done, admit_not}
use Rattle.state.proofs.SoundLaws.{laid_same}
use native.Mathlib.Omega.{arith}
use Rattle.places.proofs.admit.Goals as goal

pub returns-then-store-gt2 : goal.returns-then-store-gt2
returns-then-store-gt2 c = λ b e. admit_not _ _ _ _ b c.requires.0 c.if-store-gt2.true

pub join-requires : goal.join-requires
join-requires c = (laid_same _ _ _ c.requires.0 (c.fill_row.ensures.only 0 (omega arith) (omega arith)) (c.fill_row.ensures.only 1 (omega arith) (omega arith)) c.fill_row.ensures.long, c.requires.1)

pub returns : goal.returns
returns c = λ b e. admit_done _ _ _ _ _ _ _ _ _ _ c.requires.0 c.requires.1 c.if-store-gt2.false c.fill_row.ensures c.join.ensures c.status-is.ensures c.tally.ensures b e
