-- `holdings::remove` meets its contract: the room is read, and the call works inside of it.
use Rattle.arrivals.proofs.CallLaws.{whole, no_room}
use Rattle.holdings.proofs.remove.Goals as goal

pub returns-then-n-eq0 : goal.returns-then-n-eq0
returns-then-n-eq0 c = no_room _ _ _ _ c.room-n.ensures.1 c.if-n-eq0.true

pub remove_in-requires : goal.remove_in-requires
remove_in-requires c = c.room-n.ensures.0 c.if-n-eq0.false

pub returns : goal.returns
returns c = whole _ _ _ _ _ c.room-n.ensures.1 c.remove_in.ensures
