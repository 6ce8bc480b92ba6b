-- `arrivals::put` meets its contract: the room is read, and the call works inside of it.
use Rattle.arrivals.proofs.CallLaws.{whole, no_room}
use Rattle.arrivals.proofs.put.Goals as goal

pub returns-then-n-eq0 : goal.returns-then-n-eq0
returns-then-n-eq0 c = no_room _ _ _ _ c.room-n.ensures.1 c.if-n-eq0.true

pub put_in-requires : goal.put_in-requires
put_in-requires c = c.room-n.ensures.0 c.if-n-eq0.false

pub returns : goal.returns
returns c = whole _ _ _ _ _ c.room-n.ensures.1 c.put_in.ensures
