-- `places::moved` meets its contract.
use Rattle.places.proofs.StatusLaws.{moved_same, moved_out, moved_in, moved_none}
use mathlib.Core.Bool.{true, false}
use Rattle.places.proofs.moved.Goals as goal

pub returns-then-is : goal.returns-then-is
returns-then-is c = moved_same _ _ _ true c.if-was.true c.if-is.true

pub returns-then-count-eq0 : goal.returns-then-count-eq0
returns-then-count-eq0 c = moved_none c.args.count c.args.was c.args.is c.if-was.true c.if-count-eq0.true

pub returns-then-was : goal.returns-then-was
returns-then-was c = moved_out _ _ _ c.if-was.true c.if-is.false

pub returns-then-is-2 : goal.returns-then-is-2
returns-then-is-2 c = moved_in _ _ _ c.if-was.false c.if-is-2.true

pub returns : goal.returns
returns c = moved_same _ _ _ false c.if-was.false c.if-is-2.false
