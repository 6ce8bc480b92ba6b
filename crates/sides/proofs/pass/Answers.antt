-- `sides::pass` meets its contract.
use mathlib.Core.Path.{refl}
use Rattle.sides.proofs.GatherLaws.{both_true, both_false, pass_drop, pass_first, pass_next}
use Rattle.sides.proofs.pass.Goals as goal

pub returns-then-not-safe : goal.returns-then-not-safe
returns-then-not-safe c = let a = c.args in pass_drop a.n a.q a.safe a.meets a.e _ refl (c.if-not-safe.true) refl refl refl

pub returns-then-meets : goal.returns-then-meets
returns-then-meets c = let a = c.args in pass_first a.n a.q a.safe a.meets a.e _ refl (c.if-not-safe.false) c.if-e-eq0.true refl refl (both_true a.meets a.e.meets c.if-meets.true)

pub returns-else-meets : goal.returns-else-meets
returns-else-meets c = let a = c.args in pass_first a.n a.q a.safe a.meets a.e _ refl (c.if-not-safe.false) c.if-e-eq0.true refl refl (both_false a.meets a.e.meets c.if-meets.false)

pub returns-then-meets-2 : goal.returns-then-meets-2
returns-then-meets-2 c = let a = c.args in pass_next a.n a.q a.safe a.meets a.e _ refl (c.if-not-safe.false) c.if-e-eq0.false refl refl (both_true a.meets a.e.meets c.if-meets-2.true)

pub returns-else-meets-2 : goal.returns-else-meets-2
returns-else-meets-2 c = let a = c.args in pass_next a.n a.q a.safe a.meets a.e _ refl (c.if-not-safe.false) c.if-e-eq0.false refl refl (both_false a.meets a.e.meets c.if-meets-2.false)
