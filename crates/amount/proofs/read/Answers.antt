-- `amount::read` meets its contract (document 01, "Amounts"). The loop's invariant is `Progress`: what the whole text is read as is what
-- is left to read gives after the digits so far. The measure is what is left of the length.
use Rattle.amount.proofs.Digits as digits
use native.Mathlib.Omega.{arith}
use Rattle.amount.proofs.read.Goals as goal
use Rattle.amount.proofs.read.Goals.{in-43+else-i-ne0, in-48-to-57+in-Fits}

pub loop-i-init : goal.loop-i-init
loop-i-init c = digits.start _ _ c.zero-sum.ensures.exact c.zero-sum.ensures.below

-- a plus sign that does not stand first
pub returns-then-i-ne0 : goal.returns-then-i-ne0
returns-then-i-ne0 c =
    let loop = c.loop-i in
    digits.late_plus _ _ _ _ loop.invariant c.loop-i-test.true c.in-43.is c.if-i-ne0.true

-- a digit that makes the value too large
pub returns-in-TooLarge : goal.returns-in-TooLarge
returns-in-TooLarge c =
    digits.too_large _ _ _ _ c.loop-i.invariant c.loop-i-test.true (omega arith) (omega arith) c.in-TooLarge.ensures

-- any other byte, below the digits and above them
pub returns-in_default : goal.returns-in_default
returns-in_default c =
    digits.low_byte _ _ _ _ c.loop-i.invariant c.loop-i-test.true (omega arith) (λ e. omega arith)

pub returns-in_default-2 : goal.returns-in_default-2
returns-in_default-2 c =
    digits.high_byte _ _ _ _ c.loop-i.invariant c.loop-i-test.true (omega arith)

-- after a plus sign that stands first, or a digit
pub loop-i-preserved : goal.loop-i-preserved
loop-i-preserved c =
    elim c.match-b.branch [
      | in-43+else-i-ne0 w ↦ rw (w.sum-is, w.digits-is) (digits.first_plus _ _ _ _ c.loop-i.invariant c.loop-i-test.true w.in-43.is w.if-i-ne0.false)
      | in-48-to-57+in-Fits w ↦
          rw (w.sum-is, w.digits-is)
          (digits.one_digit _ _ _ _ c.loop-i.invariant c.loop-i-test.true (omega arith) (omega arith) _ w.in-Fits.ensures.exact w.in-Fits.ensures.below)
    ]

-- the end, after a digit or after none
pub returns-then-digits : goal.returns-then-digits
returns-then-digits c = digits.ended _ _ _ _ c.loop-i.invariant c.if-digits.true c.loop-i-test.false

pub returns-else-digits : goal.returns-else-digits
returns-else-digits c = digits.ended_empty _ _ _ _ c.loop-i.invariant c.if-digits.false c.loop-i-test.false
