-- `releasing::vacate` meets its contract.
use mathlib.Core.Path.{refl}
use Rattle.releasing.proofs.VacateLaws.{vacate_done}
use Rattle.releasing.proofs.vacate.Goals as goal

pub returns : goal.returns
returns c =
    vacate_done _ _ _ _ _ _ _ c.requires.0 c.requires.1 c.unlink.ensures c.unlink-2.ensures (record { now_is = refl }) c.update.ensures
