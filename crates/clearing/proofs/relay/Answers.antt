-- `clearing::relay` meets its contract.
use mathlib.Core.Path.{refl, ◌∙◌}
use native.Mathlib.Omega.{arith}
use lib.ListN.{length-set}
use Rattle.clearing.proofs.ReloadLaws.{relay_laid, relay_done}
use Rattle.clearing.proofs.relay.Goals as goal

pub bounds-mem-3 : goal.bounds-mem-3
bounds-mem-3 c = simp length-set (omega arith)

pub bounds-mem-6 : goal.bounds-mem-6
bounds-mem-6 c = simp length-set (omega arith)

pub bounds-mem-7 : goal.bounds-mem-7
bounds-mem-7 c = simp length-set (omega arith)

pub wipe-requires : goal.wipe-requires
wipe-requires c = relay_laid c.args.mem.now _ _ _ _ c.args.n c.args.generation c.args.version c.requires (record { now_is = refl }) (record { now_is = refl }) (record { now_is = refl }) (record { now_is = refl })

pub shape_of-mem : goal.shape_of-mem
shape_of-mem c = c.wipe.auto.mem ∙ simp length-set

pub returns : goal.returns
returns c = relay_done c.args.mem.now _ _ _ _ c.args.n c.args.generation c.args.version c.requires (record { now_is = refl }) (record { now_is = refl }) (record { now_is = refl }) (record { now_is = refl }) _ c.wipe.ensures
