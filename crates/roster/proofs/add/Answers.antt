-- `roster::add` meets its contract: nothing, where the place is a member or there is no room; else three stores.
use mathlib.Core.Path.{refl, sym, ◌∙◌}
use native.Mathlib.Omega.{arith}
use Rattle.roster.proofs.RosterLaws.{added_full, added_done}
use Rattle.roster.proofs.add.Goals as goal

pub returns-then-n-z : goal.returns-then-n-z
returns-then-n-z c =
    let a = c.args in
    added_full a.mem.now a.n a.list a.size a.posn a.p c.requires.0 (sym c.has.ensures ∙ c.if-has.false)
    (omega (arith, c.count-z.ensures.is))

pub returns : goal.returns
returns c =
    let a = c.args in
    added_done a.mem.now _ _ _ a.n a.list a.size a.posn a.p _ c.requires.0 c.requires.1
    (sym c.has.ensures ∙ c.if-has.false) c.count-z.ensures.is (omega arith)
    (record { now_is = refl }) (record { now_is = refl }) (record { now_is = refl })
