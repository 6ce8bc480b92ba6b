-- `clearing::wipe` meets its contract.
use native.Mathlib.Omega.{arith}
use Rattle.clearing.proofs.WipeLaws.{cleared_laid, built_laid, wipe_done}
use Rattle.clearing.proofs.wipe.Goals as goal

pub build-requires : goal.build-requires
build-requires c = record { laid = cleared_laid c.requires c.sweep.ensures c.clear.ensures c.clear-2.ensures; bounds = omega arith }

pub clear-requires-3 : goal.clear-requires-3
clear-requires-3 c = built_laid (cleared_laid c.requires c.sweep.ensures c.clear.ensures c.clear-2.ensures) c.build.ensures

pub returns : goal.returns
returns c = wipe_done _ _ _ _ _ _ _ c.requires c.sweep.ensures c.clear.ensures c.clear-2.ensures c.build.ensures c.clear-3.ensures
