-- A hash in a memory is four words: they have the number of another four only if they are these.
use mathlib.Core.Path.{◌≡◌, ap, ◌∙◌}
use mathlib.Core.Bool.{true, ◌&&◌}
use mathlib.Core.List.{List}
use Prim.Native.Nat.{ℕ, ◌+◌, ◌<◌}
use native.Mathlib.Omega.{arith}
use lib.Dec.{eqb}
use borrow.Author.Tests.{eqb-true, eq-eqb}
use Rattle.model.proofs.Tools.{and_left, and_right}
use Rattle.hash.specs.Hashes.{limb, join}
use Rattle.hash.proofs.HashLaws.{Words, same_join}
use Rattle.block.specs.Words.{quad, hash_of}
use Rattle.memory.specs.Words.{word, seg}
use Rattle.memory.proofs.WordLaws.{seg-quad}

pub quad_hash : (a b c d : ℕ) (g : ℕ → ℕ) → g ≡ quad a b c d → hash_of g ≡ join a b c d
quad_hash a b c d g e = ap hash_of e

pub seg_hash : (m : List ℕ) (at a b c d : ℕ) → ((i : ℕ) → word m i < limb) → Words a b c d → hash_of (seg m at 4) ≡ join a b c d → seg m at 4 ≡ quad a b c d
seg_hash m at a b c d wide w e =
    let a' = word m (at + 0) in
    let b' = word m (at + 1) in
    let c' = word m (at + 2) in
    let d' = word m (at + 3) in
    let w' : Words a' b' c' d' = record { first = wide (at + 0); second = wide (at + 1); third = wide (at + 2); fourth = wide (at + 3) } in
    let t : (eqb a' a && (eqb b' b && (eqb c' c && (eqb d' d && true)))) ≡ true = same_join a' b' c' d' a b c d w' w ∙ eq-eqb (join a' b' c' d') (join a b c d) e in
    let t₁ = and_right (eqb a' a) (eqb b' b && (eqb c' c && (eqb d' d && true))) t in
    let t₂ = and_right (eqb b' b) (eqb c' c && (eqb d' d && true)) t₁ in
    let t₃ = and_right (eqb c' c) (eqb d' d && true) t₂ in
    seg-quad m at a b c d
    (ap (word m) (omega arith) ∙ eqb-true a' a (and_left (eqb a' a) (eqb b' b && (eqb c' c && (eqb d' d && true))) t))
    (eqb-true b' b (and_left (eqb b' b) (eqb c' c && (eqb d' d && true)) t₁))
    (eqb-true c' c (and_left (eqb c' c) (eqb d' d && true) t₂))
    (eqb-true d' d (and_left (eqb d' d) true t₃))
