-- `releasing::settle` meets its contract.
use Rattle.releasing.proofs.VacateLaws.{settle_free, settle_held, settle_done}
use Rattle.releasing.proofs.settle.Goals as goal
use Rattle.releasing.proofs.settle.Goals.{else-mem-at-eq1-via-then-mem-at-eq1+else-status-eq0, else-mem-at-eq1-via-else-mem-at-eq1}

pub returns-then-status-eq0 : goal.returns-then-status-eq0
returns-then-status-eq0 c =
    settle_done c.args.mem.now c.args.n c.args.p c.requires.1 _ c.if-mem-at-eq1.true c.status.ensures _ c.if-status-eq0.true c.vacate.ensures

pub returns-else-mem-at-eq1 : goal.returns-else-mem-at-eq1
returns-else-mem-at-eq1 c =
    elim c.else-mem-at-eq1.branch [
      | else-mem-at-eq1-via-then-mem-at-eq1+else-status-eq0 w ↦
          settle_held c.args.mem.now c.args.n c.args.p c.requires.1 _ w.if-mem-at-eq1.true w.status.ensures w.if-status-eq0.false
      | else-mem-at-eq1-via-else-mem-at-eq1 w ↦ settle_free c.args.mem.now c.args.n c.args.p c.requires.1 w.if-mem-at-eq1.false
    ]
