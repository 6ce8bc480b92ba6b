-- Whether some place passes, by trying one after another.
use mathlib.Core.Path.{◌≡◌}
use mathlib.Core.Bool.{Bool, true, false}
use Prim.Native.Nat.{ℕ, ◌≤◌, ◌<◌}
use native.Mathlib.Omega.{arith}
use Rattle.model.specs.Places.{first, is_some}
use Rattle.model.proofs.Tools.{by_option, no_both, first_some, first_exists}

-- none below i passes
abbrev pub NoneBelow : (ℕ → Bool) → ℕ → Type 0
NoneBelow f i = (q : ℕ) → q < i → f q ≡ false

pub some_there : (f : ℕ → Bool) (n i : ℕ) → i < n → f i ≡ true → true ≡ is_some (first f n)
some_there f n i l e = let k = first_exists f n i e l in let z = k.1 in rw z

pub none_there : (f : ℕ → Bool) (n i : ℕ) → n ≤ i → NoneBelow f i → false ≡ is_some (first f n)
none_there f n i l k = by_option (first f n) (λ e. rw e) (λ p e. let g = first_some f n p e in no_both (f p) g.0 (k p (omega (arith, g.1))))
