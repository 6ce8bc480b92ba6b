-- `clearing::reload` meets its contract.
use mathlib.Core.Path.{sym, ◌∙◌}
use native.Mathlib.Omega.{arith}
use Rattle.clearing.proofs.ReloadLaws.{reload_nowhere, reload_early, reload_done}
use Rattle.clearing.proofs.reload.Goals as goal

pub returns-then-n-eq0 : goal.returns-then-n-eq0
returns-then-n-eq0 c = reload_nowhere _ _ _ (λ l. sym c.if-n-eq0.true ∙ c.room-n.ensures.1 l)

pub bounds-mem-2 : goal.bounds-mem-2
bounds-mem-2 c = let l = c.room-n.ensures.0 c.if-n-eq0.false in omega (arith, l.fits)

pub returns-then-generation-mem : goal.returns-then-generation-mem
returns-then-generation-mem c = reload_early _ _ _ _ (c.room-n.ensures.0 c.if-n-eq0.false) c.if-generation-mem.true

pub relay-requires : goal.relay-requires
relay-requires c = c.room-n.ensures.0 c.if-n-eq0.false

pub returns : goal.returns
returns c = reload_done _ _ _ _ (c.room-n.ensures.0 c.if-n-eq0.false) _ c.if-generation-mem.false c.relay.ensures
