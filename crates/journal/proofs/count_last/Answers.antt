-- `journal::count_last` meets its contract. The loop counts the last touches of the i newest entries.
use native.Mathlib.Omega.{arith}
use mathlib.Core.Path.{sym, ap, ◌∙◌}
use lib.ListN.{length}
use Rattle.journal.specs.Journal.{touched_at}
use Rattle.journal.proofs.ListLaws.{lasts_none}
use Rattle.journal.proofs.ChangesLaws.{count_more, count_same}
use Rattle.journal.proofs.count_last.Goals as goal
use Rattle.journal.proofs.count_last.Goals.{then-is_last, else-is_last}

pub loop-i-init : goal.loop-i-init
loop-i-init c =
    let a = c.args in (omega arith, λ w h. sym (ap length (lasts_none (touched_at a.mem.now a.n))))

pub loop-i-preserved : goal.loop-i-preserved
loop-i-preserved c =
    let a = c.args in
    let s = c.loop-i in
    let v = s.invariant in
    elim c.if-is_last.branch [
      | then-is_last u ↦ (omega arith, λ w h. let e = v.1 w h in rw u.r-is (count_more a.mem.now a.n s.i s.r w (omega arith) (sym (c.is_last.ensures w (omega arith)) ∙ u.if-is_last.true) e))
      | else-is_last u ↦ (omega arith, λ w h. let e = v.1 w h in rw u.r-is (count_same a.mem.now a.n s.i s.r w (omega arith) (sym (c.is_last.ensures w (omega arith)) ∙ u.if-is_last.false) e))
    ]
