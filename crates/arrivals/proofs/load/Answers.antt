-- `arrivals::load` meets its contract: the room is read, and the call works inside of it.
use Rattle.arrivals.proofs.CallLaws.{whole, no_room}
use Rattle.arrivals.proofs.load.Goals as goal

pub returns-then-n-eq0 : goal.returns-then-n-eq0
returns-then-n-eq0 c = no_room _ _ _ _ c.room-n.ensures.1 c.if-n-eq0.true

pub load_in-requires : goal.load_in-requires
load_in-requires c = c.room-n.ensures.0 c.if-n-eq0.false

pub returns : goal.returns
returns c = whole _ _ _ _ _ c.room-n.ensures.1 c.load_in.ensures
