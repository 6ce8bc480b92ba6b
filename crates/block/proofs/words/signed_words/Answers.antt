-- `block::words::signed_words` meets its contract. The laws of `TimeLaws` turn the bits into the number.
use native.Mathlib.Omega.{arith}
use Rattle.block.proofs.TimeLaws.{negative, positive, flipped, written, as_signed, negative_is, positive_is}
use Rattle.block.proofs.words.signed_words.Goals as goal

pub overflow_sub-result : goal.overflow_sub-result
overflow_sub-result c = let g = negative c.args.x c.ranges.x c.if-x-lt0.true in rw (flipped c.args.x c.ranges.x g) (record { sfits = g.below })

pub overflow_cast-result : goal.overflow_cast-result
overflow_cast-result c = let g = negative c.args.x c.ranges.x c.if-x-lt0.true in rw (flipped c.args.x c.ranges.x g, as_signed g.n g.below) (tt, record { fits = let b = g.below in omega arith })

pub overflow_cast-result-else-x-lt0 : goal.overflow_cast-result-else-x-lt0
overflow_cast-result-else-x-lt0 c = let g = positive c.args.x c.ranges.x c.if-x-lt0.false in rw (written c.args.x c.ranges.x g) (tt, record { fits = let b = g.below in omega arith })

pub returns-then-x-lt0 : goal.returns-then-x-lt0
returns-then-x-lt0 c = let g = negative c.args.x c.ranges.x c.if-x-lt0.true in rw (flipped c.args.x c.ranges.x g, as_signed g.n g.below) (negative_is c.args.x g)

pub returns-else-x-lt0 : goal.returns-else-x-lt0
returns-else-x-lt0 c = let g = positive c.args.x c.ranges.x c.if-x-lt0.false in rw (written c.args.x c.ranges.x g) (positive_is c.args.x g)
