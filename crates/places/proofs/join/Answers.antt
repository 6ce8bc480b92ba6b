-- `places::join` meets its contract.
use Rattle.places.proofs.FillLaws.{linked_laid}
use native.Mathlib.Omega.{arith}
use Rattle.places.proofs.join.Goals as goal

pub update-requires : goal.update-requires
update-requires c = record { laid = linked_laid (omega arith) c.link-2.ensures (linked_laid (omega arith) c.link.ensures c.requires.0); bounds = (omega arith, c.requires.1) }
