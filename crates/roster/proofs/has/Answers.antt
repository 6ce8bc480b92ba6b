-- `roster::has` meets its contract: no position among the members, or the member there.
use mathlib.Core.Path.{sym, ◌∙◌}
use native.Mathlib.Omega.{arith}
use borrow.Author.Tests.{le-ltb}
use Rattle.roster.specs.Roster.{size_at, member_at, position_at}
use Rattle.roster.proofs.DenseLaws.{inside_past, inside_at}
use Rattle.roster.proofs.has.Goals as goal

pub returns-then-i-z : goal.returns-then-i-z
returns-then-i-z c =
    let a = c.args in
    inside_at (size_at a.mem.now a.n a.size) (member_at a.mem.now a.n a.list) (position_at a.mem.now a.posn) a.p _ _ _
    c.count-z.ensures.is c.place_at-i.ensures (omega arith) c.at.ensures.is

pub returns-else-i-z : goal.returns-else-i-z
returns-else-i-z c =
    let a = c.args in
    le-ltb _ _ (omega arith)
    ∙ sym
    (inside_past (size_at a.mem.now a.n a.size) (member_at a.mem.now a.n a.list) (position_at a.mem.now a.posn) a.p _ _
    c.count-z.ensures.is c.place_at-i.ensures (omega arith))
