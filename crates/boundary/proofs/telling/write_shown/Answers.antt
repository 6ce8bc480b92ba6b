-- `boundary::telling::write_shown` meets its contract.
use Rattle.boundary.proofs.ShownLaws.{tells_block, tells_none, tells_no_block}
use Rattle.boundary.proofs.telling.write_shown.Goals as goal

pub returns-in-Block : goal.returns-in-Block
returns-in-Block c = tells_block c.in-Block.is c.write_block.ensures

pub returns-in-None : goal.returns-in-None
returns-in-None c = tells_none _ c.requires c.in-None.is

pub returns-in-Refused : goal.returns-in-Refused
returns-in-Refused c = tells_no_block _ c.in-Refused.is c.refusal_number.ensures
