-- `plans::finish` meets its contract.
use Rattle.plans.proofs.CallLaws.{finish_none, finish_some}
use Rattle.plans.proofs.finish.Goals as goal

pub returns-then-n-eq0 : goal.returns-then-n-eq0
returns-then-n-eq0 c = finish_none _ _ _ _ _ _ c.room_in-n.ensures c.if-n-eq0.true c.planned.ensures

pub write_out-k-requires : goal.write_out-k-requires
write_out-k-requires c = rw c.room_in-n.ensures (c.requires (rw c.room_in-n.ensures at c.if-n-eq0.false))

pub returns : goal.returns
returns c = finish_some _ _ _ _ _ _ c.room_in-n.ensures c.if-n-eq0.false _ _ _ _ c.reason_in.ensures c.write_out-k.ensures c.planned-2.ensures
