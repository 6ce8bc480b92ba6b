-- `roster::drop` meets its contract: nothing, where the place is no member; else three stores.
use mathlib.Core.Path.{refl, sym, ◌∙◌}
use native.Mathlib.Omega.{arith}
use borrow.Author.Tests.{ne_eqb, eq-eqb}
use Rattle.roster.specs.Roster.{size_at, member_at, position_at}
use Rattle.roster.proofs.DenseLaws.{inside_past, inside_at}
use Rattle.roster.proofs.RosterLaws.{dropped_not, dropped_done}
use Rattle.roster.proofs.drop.Goals as goal
use Rattle.roster.proofs.drop.Goals.{then-z-i-via-then-z-i, then-z-i-via-else-z-i+then-at-p}

pub returns-then-z-i : goal.returns-then-z-i
returns-then-z-i c =
    let a = c.args in
    dropped_not a.mem.now a.n a.list a.size a.posn a.p
    (elim c.then-z-i.branch [
      | then-z-i-via-then-z-i w ↦
          inside_past (size_at a.mem.now a.n a.size) (member_at a.mem.now a.n a.list) (position_at a.mem.now a.posn) a.p _ _
          c.count-z.ensures.is c.place_at-i.ensures (omega arith)
      | then-z-i-via-else-z-i+then-at-p w ↦
          sym
          (inside_at (size_at a.mem.now a.n a.size) (member_at a.mem.now a.n a.list) (position_at a.mem.now a.posn) a.p _ _ _
          c.count-z.ensures.is c.place_at-i.ensures (omega arith) w.at.ensures.is) ∙ ne_eqb _ _ w.if-at-p.true
    ])

pub returns : goal.returns
returns c =
    let a = c.args in
    dropped_done a.mem.now _ _ _ a.n a.list a.size a.posn a.p _ _ _ c.requires.0 c.requires.1
    (sym
    (inside_at (size_at a.mem.now a.n a.size) (member_at a.mem.now a.n a.list) (position_at a.mem.now a.posn) a.p _ _ _
    c.count-z.ensures.is c.place_at-i.ensures (omega arith) c.at.ensures.is) ∙ eq-eqb _ _ c.if-at-p.false)
    c.count-z.ensures.is c.place_at-i.ensures c.at-q.ensures.is c.at-q.ensures.below
    (record { now_is = refl }) (record { now_is = refl }) (record { now_is = refl })
