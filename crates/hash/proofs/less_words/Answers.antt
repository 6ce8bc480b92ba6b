-- `hash::less_words` meets its contract. Each return hands what its tests said to one law on four words.
use borrow.Author.Tests.{eq-eqb, ne_eqb}
use lib.Dec.{eqb, ltb}
use mathlib.Core.Bool.{Bool, cond}
use mathlib.Core.Path.{◌≡◌, refl}
use Rattle.hash.specs.Hashes.{join}
use Rattle.hash.proofs.HashLaws.{less_words}
use Rattle.hash.proofs.less_words.Goals as goal
use Rattle.hash.proofs.less_words.Goals.{Start}

ordered : (c : Start) {p q r : Bool} → let a = c.args in eqb a.a0 a.b0 ≡ p → eqb a.a1 a.b1 ≡ q → eqb a.a2 a.b2 ≡ r → cond p (cond q (cond r (ltb a.a3 a.b3) (ltb a.a2 a.b2)) (ltb a.a1 a.b1)) (ltb a.a0 a.b0) ≡ ltb (join a.a0 a.a1 a.a2 a.a3) (join a.b0 a.b1 a.b2 a.b3)
ordered c =
    less_words _ _ _ _ _ _ _ _
    (record { first = c.ranges.a0.fits; second = c.ranges.a1.fits; third = c.ranges.a2.fits; fourth = c.ranges.a3.fits })
    (record { first = c.ranges.b0.fits; second = c.ranges.b1.fits; third = c.ranges.b2.fits; fourth = c.ranges.b3.fits })

pub returns-then-a0-b0 : goal.returns-then-a0-b0
returns-then-a0-b0 c = ordered (goal.at.returns-then-a0-b0 c).Start (ne_eqb _ _ c.if-a0-b0.true) refl refl

pub returns-then-a1-b1 : goal.returns-then-a1-b1
returns-then-a1-b1 c = ordered (goal.at.returns-then-a1-b1 c).Start (eq-eqb _ _ c.if-a0-b0.false) (ne_eqb _ _ c.if-a1-b1.true) refl

pub returns-then-a2-b2 : goal.returns-then-a2-b2
returns-then-a2-b2 c = ordered (goal.at.returns-then-a2-b2 c).Start (eq-eqb _ _ c.if-a0-b0.false) (eq-eqb _ _ c.if-a1-b1.false) (ne_eqb _ _ c.if-a2-b2.true)

pub returns : goal.returns
returns c = ordered (goal.at.returns c).Start (eq-eqb _ _ c.if-a0-b0.false) (eq-eqb _ _ c.if-a1-b1.false) (eq-eqb _ _ c.if-a2-b2.false)
