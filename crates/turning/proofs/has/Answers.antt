-- `turning::has` meets its contract. None below i has the code.
use mathlib.Core.Path.{sym, ◌∙◌}
use native.Mathlib.Omega.{arith}
use Prim.Native.Nat.{◌+◌}
use lib.Dec.{eqb}
use borrow.Author.Tests.{eq-eqb}
use Rattle.memory.specs.Words.{word}
use Rattle.memory.specs.Layout.{row}
use Rattle.turning.proofs.HasLaws.{some_there, none_there}
use Rattle.turning.proofs.has.Goals as goal

pub returns-then-code-c : goal.returns-then-code-c
returns-then-code-c c = let a = c.args in some_there (λ q. eqb (word a.mem.now (row q + 59)) a.c) a.n c.loop-i.i (omega arith) (eq-eqb _ _ (sym c.code.ensures ∙ c.if-code-c.true))

pub returns : goal.returns
returns c = let a = c.args in none_there (λ q. eqb (word a.mem.now (row q + 59)) a.c) a.n c.loop-i.i (omega arith) c.loop-i.invariant
