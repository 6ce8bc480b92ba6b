-- `pending::drop` meets its contract.
use mathlib.Core.Path.{refl}
use Rattle.pending.proofs.PendLaws.{drop_stores}
use Rattle.pending.proofs.drop.Goals as goal

pub returns : goal.returns
returns c =
    let p = c.requires in
    drop_stores _ _ _ _ _ p.0 p.1 (record { now_is = refl }) c.update.ensures
