-- `holdings::generation` meets its contract.
use native.Mathlib.Omega.{arith}
use Rattle.holdings.proofs.AskLaws.{asks_nowhere, asks_generation}
use Rattle.holdings.proofs.generation.Goals as goal

pub returns-then-room-eq0 : goal.returns-then-room-eq0
returns-then-room-eq0 c = asks_nowhere _ _ _ _ _ c.room.ensures.1 c.if-room-eq0.true

pub bounds-mem-2 : goal.bounds-mem-2
bounds-mem-2 c = let l = c.room.ensures.0 c.if-room-eq0.false in omega (arith, l.fits)

pub returns : goal.returns
returns c = asks_generation _
