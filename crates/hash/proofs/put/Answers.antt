-- `hash::put` meets its contract: four rows put one after the other are the bytes of the number.
use Prim.Native.Nat.{ℕ, ◌+◌}
use lib.Seq.{sets}
use mathlib.Core.List.{List, []}
use mathlib.Core.Path.{sym, ◌∙◌, ap}
use Rattle.hash.specs.Digits.{digits}
use Rattle.hash.proofs.HashLaws.{put_four, words_bytes}
use Rattle.hash.proofs.put.Goals as goal

pub returns : goal.returns
returns c =
    let a = c.args in
    c.put_word-4.ensures ∙ ap (λ (m : List ℕ). sets m (a.at + 24) (digits 256 8 a.d [])) (c.put_word-3.ensures ∙ ap (λ (m : List ℕ). sets m (a.at + 16) (digits 256 8 a.c [])) (c.put_word-2.ensures ∙ ap (λ (m : List ℕ). sets m (a.at + 8) (digits 256 8 a.b [])) c.put_word.ensures)) ∙
    put_four a.a a.b a.c a.d a.at a.list.now ∙
    ap (sets a.list.now a.at) (sym (words_bytes a.a a.b a.c a.d (record { first = c.ranges.a.fits; second = c.ranges.b.fits; third = c.ranges.c.fits; fourth = c.ranges.d.fits })))
