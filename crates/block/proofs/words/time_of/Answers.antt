-- `block::words::time_of` meets its contract. The laws of `TimeLaws` turn the bits into the number.
use Prim.Native.Nat.{◌%◌}
use borrow.Author.Tests.{ne_eqb}
use lib.IntN.{negsuc}
use mir.Syntax.{w64}
use mir.ValLaws.{to_z-of_z}
use Rattle.block.specs.Words.{half}
use Rattle.block.proofs.TimeLaws.{small, as_signed, minus_one}
use Rattle.block.proofs.words.time_of.Goals as goal

pub returns-then-kind-eq0 : goal.returns-then-kind-eq0
returns-then-kind-eq0 c = rw c.if-kind-eq0.true

pub overflow_sub-result : goal.overflow_sub-result
overflow_sub-result c = rw (minus_one (c.args.word % half) (small c.args.word)) (record { sfits = small c.args.word })

pub returns-then-kind-eq1 : goal.returns-then-kind-eq1
returns-then-kind-eq1 c = rw (c.if-kind-eq1.true, as_signed (c.args.word % half) (small c.args.word))

pub returns-else-kind-eq1 : goal.returns-else-kind-eq1
returns-else-kind-eq1 c = rw (ne_eqb c.args.kind 0 c.if-kind-eq0.false, ne_eqb c.args.kind 1 c.if-kind-eq1.false, minus_one (c.args.word % half) (small c.args.word), to_z-of_z w64 (negsuc (c.args.word % half)) (record { sfits = small c.args.word }))
