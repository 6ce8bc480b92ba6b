-- `holdings::version` meets its contract.
use native.Mathlib.Omega.{arith}
use Rattle.holdings.proofs.AskLaws.{asks_nowhere, asks_version}
use Rattle.holdings.proofs.version.Goals as goal

pub returns-then-room-eq0 : goal.returns-then-room-eq0
returns-then-room-eq0 c = asks_nowhere _ _ _ _ _ c.room.ensures.1 c.if-room-eq0.true

pub bounds-mem-3 : goal.bounds-mem-3
bounds-mem-3 c = let l = c.room.ensures.0 c.if-room-eq0.false in omega (arith, l.fits)

pub returns : goal.returns
returns c = asks_version _
