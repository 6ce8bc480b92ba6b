-- Laws of keys: a test of four words, and frames.
use mathlib.Core.Path.{◌≡◌, refl, sym, ap, ◌∙◌, subst}
use mathlib.Core.Bool.{Bool, true, false, ◌&&◌}
use mathlib.Core.List.{List}
use Prim.Native.Nat.{ℕ, ◌+◌, ◌≤◌, ◌<◌}
use native.Mathlib.Omega.{arith}
use borrow.Author.Tests.{eqb-true, eq-eqb}
use lib.Dec.{eqb}
use Rattle.model.proofs.Tools.{no_both}
use Rattle.block.specs.Words.{quad}
use Rattle.memory.specs.Words.{word, seg, same_four, Only}
use Rattle.memory.specs.Layout.{strided}
use Rattle.memory.proofs.WordLaws.{seg-quad, seg_same}
use Rattle.index.specs.Keys.{key_at, Tests}

all_four : (p q r t : Bool) → (p && q && r && t) ≡ true → (p ≡ true) × (q ≡ true) × (r ≡ true) × (t ≡ true)
all_four true true true true e = (refl, refl, refl, refl)
all_four true true true false e = no_both false e refl
all_four true true false t e = no_both false e refl
all_four true false r t e = no_both false e refl
all_four false q r t e = no_both false e refl

pub tests_four : (m : List ℕ) (at a b c d : ℕ) (t : Bool) → t ≡ same_four (seg m at 4) (quad a b c d) → Tests t (seg m at 4 ≡ quad a b c d)
tests_four m at a b c d true e =
    let h = all_four (eqb (word m (at + 0)) a) (eqb (word m (at + 1)) b) (eqb (word m (at + 2)) c) (eqb (word m (at + 3)) d) (sym e) in
    let e₀ : word m (at + 0) ≡ a = eqb-true _ _ h.0 in
    seg-quad m at a b c d (ap (word m) (omega arith) ∙ e₀) (eqb-true _ _ h.1) (eqb-true _ _ h.2) (eqb-true _ _ h.3)
tests_four m at a b c d false e = λ f. no_both _ full (sym (subst (λ (z : ℕ → ℕ). false ≡ same_four z (quad a b c d)) f e))
  where
    full : (eqb a a && eqb b b && eqb c c && eqb d d) ≡ true
    full = rw (eq-eqb a a refl, eq-eqb b b refl, eq-eqb c c refl, eq-eqb d d refl)

-- the key of slot x where none of its words changed
pub key_kept : (m m' : List ℕ) (lo hi keys : ℕ) (entries : Bool) (x : ℕ) → Only m m' lo hi
    → ((i : ℕ) → i < 4 → lo ≤ keys + strided entries x + i → keys + strided entries x + i < hi → ⊥)
    → key_at m' keys entries x ≡ key_at m keys entries x
key_kept m m' lo hi keys entries x o off = seg_same m m' (keys + strided entries x) 4 (λ i h. o (keys + strided entries x + i) (off i h))
