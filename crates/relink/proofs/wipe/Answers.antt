-- `relink::wipe` meets its contract: the rows below p have been wiped.
use mathlib.Core.Path.{refl}
use Prim.Native.Nat.{◌+◌, ◌*◌}
use native.Mathlib.Omega.{arith}
use lib.ListN.{set}
use Rattle.relink.proofs.WipeLaws.{wiping_more, wiping_done}
use Rattle.relink.proofs.wipe.Goals as goal

pub loop-p-preserved : goal.loop-p-preserved
loop-p-preserved c =
    let f = c.requires.fits in
    wiping_more _ _ (set c.loop-p.mem (64 + 68 * c.loop-p.p + 56) 0) (set (set c.loop-p.mem (64 + 68 * c.loop-p.p + 56) 0) (64 + 68 * c.loop-p.p + 60) 0) _ _ _ c.loop-p.invariant (omega arith) (omega arith)
    (record { now_is = refl }) (record { now_is = refl }) (record { now_is = refl })

pub returns : goal.returns
returns c = wiping_done _ _ _ _ c.loop-p.invariant (omega arith)
