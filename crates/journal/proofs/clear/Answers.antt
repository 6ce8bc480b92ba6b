-- `journal::clear` meets its contract: two stores, and an index emptied.
use mathlib.Core.Path.{refl}
use Rattle.journal.proofs.StepLaws.{clear_done}
use Rattle.journal.proofs.clear.Goals as goal

pub returns : goal.returns
returns c =
    let a = c.args in
    clear_done a.mem.now _ _ c.clear.new.mem a.n c.place_at-j.result c.requires c.place_at-j.ensures (record { now_is = refl }) (record { now_is = refl }) c.clear.ensures
