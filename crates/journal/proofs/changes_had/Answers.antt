-- `journal::changes_had` meets its contract: each test, and the count.
use native.Mathlib.Omega.{arith}
use Rattle.journal.proofs.ChangesLaws.{had_other, had_above, had_lost, had_count}
use Rattle.journal.proofs.changes_had.Goals as goal
use Rattle.journal.proofs.changes_had.Goals.{then-g-mem-via-then-g-mem, then-g-mem-via-else-g-mem+then-mem-v, then-g-mem-via-else-g-mem+else-mem-v+then-mem-v-2}

pub returns-then-g-mem : goal.returns-then-g-mem
returns-then-g-mem c =
    let a = c.args in
    elim c.then-g-mem.branch [
      | then-g-mem-via-then-g-mem u ↦ λ w. had_other a.mem.now a.n a.g a.v (omega arith)
      | then-g-mem-via-else-g-mem+then-mem-v u ↦ λ w. had_above a.mem.now a.n a.g a.v (omega arith) (omega arith)
      | then-g-mem-via-else-g-mem+else-mem-v+then-mem-v-2 u ↦ λ w. had_lost a.mem.now a.n a.g a.v (omega arith) (omega arith) (omega arith)
    ]

pub returns : goal.returns
returns c =
    let a = c.args in
    had_count a.mem.now a.n a.g a.v (omega arith) (omega arith) (omega arith) c.later-k.result c.count_last.result c.later-k.ensures c.count_last.ensures
