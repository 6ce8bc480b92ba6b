-- `kin::raise` meets its contract.
use native.Mathlib.Omega.{arith}
use Prim.Native.Nat.{◌+◌, ◌*◌}
use mathlib.Core.Path.{refl}
use Rattle.kin.proofs.KinLaws.{raised}
use Rattle.kin.proofs.raise.Goals as goal

pub overflow_add-mem : goal.overflow_add-mem
overflow_add-mem c = omega (arith, c.if-k.false, c.slice_known-1.given (64 + 68 * c.args.u + 64))

pub returns : goal.returns
returns c = let l = c.requires.fits in raised _ _ _ _ (omega arith) (omega (arith, l)) (record { now_is = refl })
