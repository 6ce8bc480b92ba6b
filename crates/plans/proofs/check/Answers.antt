-- `plans::check` meets its contract.
use native.Mathlib.Omega.{arith}
use Rattle.plans.proofs.CallLaws.{begins_nowhere, begins_stale, begins_short, begins_done}
use Rattle.plans.proofs.check.Goals as goal

pub returns-then-n-eq0 : goal.returns-then-n-eq0
returns-then-n-eq0 c = begins_nowhere _ _ _ c.if-n-eq0.true

pub bounds-mem-7 : goal.bounds-mem-7
bounds-mem-7 c = let l = c.requires c.if-n-eq0.false in omega arith

pub returns-then-mem-ne1 : goal.returns-then-mem-ne1
returns-then-mem-ne1 c = begins_stale _ _ _ c.if-mem-ne1.true

pub bounds-mem-12 : goal.bounds-mem-12
bounds-mem-12 c = let l = c.requires c.if-n-eq0.false in omega arith

pub returns-then-places-mem : goal.returns-then-places-mem
returns-then-places-mem c = begins_short _ _ _ c.if-mem-ne1.false c.if-places-mem.true

pub returns : goal.returns
returns c = begins_done _ _ _ c.if-n-eq0.false c.if-mem-ne1.false c.if-places-mem.false
