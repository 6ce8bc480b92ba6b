-- `clearing::lay` meets its contract.
use Rattle.clearing.proofs.StartLaws.{lay_laid, lay_done}
use Rattle.clearing.proofs.lay.Goals as goal

pub wipe-requires : goal.wipe-requires
wipe-requires c = lay_laid _ _ _ _ _ _ _ c.requires.0 c.requires.1 c.requires.2 c.requires.3 c.requires.4 c.four.ensures c.four-2.ensures

pub returns : goal.returns
returns c = lay_done _ _ _ _ _ _ _ c.requires.0 c.requires.1 c.requires.2 c.requires.3 c.requires.4 c.four.ensures c.four-2.ensures _ c.wipe.ensures
