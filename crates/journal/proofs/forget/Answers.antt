-- `journal::forget` meets its contract: a store and an unlinking, or nothing.
use native.Mathlib.Omega.{arith}
use mathlib.Core.Path.{refl}
use Rattle.journal.proofs.StepLaws.{forget_done}
use Rattle.journal.proofs.forget.Goals as goal

pub returns : goal.returns
returns c =
    let a = c.args in
    forget_done a.mem.now _ c.unlink.new.mem a.n a.j a.e (omega arith) c.requires (record { now_is = refl }) c.unlink.ensures
