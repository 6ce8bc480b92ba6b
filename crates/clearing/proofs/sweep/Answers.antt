-- `clearing::sweep` meets its contract.
use Rattle.clearing.proofs.WipeLaws.{sweep_done}
use Rattle.clearing.proofs.sweep.Goals as goal

pub returns : goal.returns
returns c = sweep_done _ _ _ _ _ c.fill.ensures c.fill-2.ensures c.fill-3.ensures
