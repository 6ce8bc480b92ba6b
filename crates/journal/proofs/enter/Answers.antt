-- `journal::enter` meets its contract: four words, the flag, and a linking.
use native.Mathlib.Omega.{arith}
use mathlib.Core.Path.{refl}
use Rattle.journal.proofs.StepLaws.{enter_done}
use Rattle.journal.proofs.enter.Goals as goal

pub returns : goal.returns
returns c =
    let a = c.args in
    enter_done a.mem.now c.four.new.mem _ c.link.new.mem a.n a.j a.at a.a a.b a.c a.d (omega arith) c.requires.1 c.four.ensures (record { now_is = refl }) c.link.ensures
