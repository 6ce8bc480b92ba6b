-- `places::tally` meets its contract: three stores.
use Rattle.places.proofs.StatusLaws.{tally_done}
use mathlib.Core.Path.{refl}
use lib.ListN.{length-set}
use native.Mathlib.Omega.{arith}
use Rattle.places.proofs.tally.Goals as goal

pub bounds-mem-12-2 : goal.bounds-mem-12-2
bounds-mem-12-2 c = simp length-set (omega arith)

pub bounds-mem-13-2 : goal.bounds-mem-13-2
bounds-mem-13-2 c = simp length-set (omega arith)

pub returns : goal.returns
returns c = tally_done _ _ _ _ _ _ _ _ _ (omega arith) c.moved-e.ensures (rw (c.is_live.ensures, c.is_live-2.ensures) at c.moved-l.ensures) (rw (c.is_canonical.ensures, c.is_canonical-2.ensures) at c.moved-c.ensures) (record { now_is = refl }) (record { now_is = refl }) (record { now_is = refl })
