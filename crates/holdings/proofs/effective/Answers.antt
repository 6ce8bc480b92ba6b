-- `holdings::effective` meets its contract.
use native.Mathlib.Omega.{arith}
use Rattle.holdings.proofs.AskLaws.{asks_nowhere, asks_absent, asks_effective}
use Rattle.holdings.proofs.effective.Goals as goal

pub returns-then-n-eq0 : goal.returns-then-n-eq0
returns-then-n-eq0 c = asks_nowhere _ _ _ _ _ c.room-n.ensures.1 c.if-n-eq0.true

pub find-p-requires : goal.find-p-requires
find-p-requires c = c.room-n.ensures.0 c.if-n-eq0.false

pub returns-then-n-p : goal.returns-then-n-p
returns-then-n-p c = asks_absent _ _ _ _ c.room-n.ensures.1 c.find-p.ensures c.if-n-p.true

pub show-requires : goal.show-requires
show-requires c = (c.room-n.ensures.0 c.if-n-eq0.false, omega arith)

pub returns : goal.returns
returns c = asks_effective _ _ _ _ c.room-n.ensures.1 c.find-p.ensures _ _ c.show.ensures.number c.show.ensures.reply (omega arith)
