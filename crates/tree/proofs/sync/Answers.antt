-- `tree::sync` meets its contract.
use Rattle.tree.proofs.SyncLaws.{sync_whole, sync_nowhere}
use Rattle.tree.proofs.sync.Goals as goal

pub returns-then-n-eq0 : goal.returns-then-n-eq0
returns-then-n-eq0 c = sync_nowhere _ _ _ c.room-n.ensures.1 c.if-n-eq0.true

pub sync_in-requires : goal.sync_in-requires
sync_in-requires c = c.room-n.ensures.0 c.if-n-eq0.false

pub returns : goal.returns
returns c = sync_whole _ _ _ c.room-n.ensures.1 c.sync_in.ensures
