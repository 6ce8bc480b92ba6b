-- `index::has_key` meets its contract.
use mathlib.Core.Path.{◌∙◌, ap}
use Prim.Native.Nat.{ℕ}
use Rattle.block.specs.Words.{quad}
use Rattle.memory.specs.Words.{seg, same_four}
use Rattle.index.proofs.KeyLaws.{tests_four}
use Rattle.index.proofs.has_key.Goals as goal

pub returns : goal.returns
returns c =
    let a = c.args in
    tests_four a.mem.now _ a.a a.b a.c a.d _
    (c.same_four.ensures ∙ ap (λ (z : ℕ). same_four (seg a.mem.now z 4) (quad a.a a.b a.c a.d)) c.key_at-at.ensures.0)
