-- `block::words::time_words` meets its contract. A time that is bound fits its type, so it is the number of its bits.
use borrow.Author.Rules.{rules}
use lib.IntN.{ℤ}
use mathlib.Core.Path.{◌≡◌, refl, subst}
use mathlib.Core.Path.{refl}
use mir.Syntax.{w64}
use mir.Val.{of_z, to_z}
use native.Mathlib.Omega.{arith}
use Rattle.block.specs.Writing.{SignedIs}
use Rattle.block.proofs.words.time_words.Goals as goal

pub returns-in-None : goal.returns-in-None
returns-in-None c = rw c.in-None.is (record { kind_is = refl; word_is = refl; below = omega arith })

pub returns-in-At : goal.returns-in-At
returns-in-At c =
    let z = c.in-At.x in
    let e : to_z w64 (of_z w64 z) ≡ z = search rules in
    rw c.in-At.is (subst (λ (x : ℤ). SignedIs x c.signed_words.result.kind c.signed_words.result.word) e c.signed_words.ensures)
