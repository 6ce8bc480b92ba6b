-- `kin::lower` meets its contract.
use native.Mathlib.Omega.{arith}
use mathlib.Core.Path.{refl}
use Rattle.kin.proofs.KinLaws.{lowered}
use Rattle.kin.proofs.lower.Goals as goal

pub returns : goal.returns
returns c = let l = c.requires.fits in lowered _ _ _ _ (omega arith) (omega (arith, l)) c.if-k-eq0.false (record { now_is = refl })
