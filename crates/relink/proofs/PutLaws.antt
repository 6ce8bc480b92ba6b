-- The canonical value of a place is put, where it is another: it is written, and its contest played again.
use mathlib.Core.Path.{◌≡◌, refl, sym, ap, ◌∙◌}
use mathlib.Core.Bool.{Bool, true, false, not}
use mathlib.Core.List.{List}
use Prim.Native.Nat.{ℕ, ◌+◌, ◌≤◌, ◌<◌}
use native.Mathlib.Omega.{arith}
use Rattle.model.specs.Standing as model
use Rattle.model.specs.Relink.{same}
use Rattle.memory.specs.Words.{seg}
use Rattle.memory.specs.Layout.{row, nodes, Laid}
use Rattle.memory.proofs.WordLaws.{seg_same}
use Rattle.contest.specs.Contests.{Updated}
use Rattle.contest.proofs.Uses.{SameBut, again}
use Rattle.rows.specs.Rows.{value_of}
use Rattle.state.proofs.SoundLaws.{laid_same}
use Rattle.values.specs.Values.{value_means, Written}
use Rattle.values.specs.declared.Value.{Value}
use Rattle.relink.specs.Turned.{PutCanonical}

-- what a comparison with the value read tells
module _ (x : model.Value) (old v : Value) (is : value_means old ≡ x) (r : Bool) (e : r ≡ same (value_means old) (value_means v)) where
  told : not r ≡ not (same x (value_means v))
  told = ap not (e ∙ ap (λ (z : model.Value). same z (value_means v)) is)

module _ (m : List ℕ) (n p : ℕ) (old v : Value) (is : value_means old ≡ value_of (seg m (row p + 60) 3)) (r : Bool) (e : r ≡ same (value_means old) (value_means v)) where
  module _ (m₁ m₂ : List ℕ) (p<n : p < n) (w : Written m m₁ (row p + 60) v) (u : Updated n 1 p m₁ m₂) where
    but : SameBut n 1 p m m₁
    but = record {
      node = λ j h. w.only (nodes n 1 + j) (λ x y. omega arith);
      marks = λ q h ne. w.only (row q + 60) (λ x y. ne (omega arith));
      keys = λ q h ne f. record {
        hash = λ a k x y. w.only (row q + k) (λ i j. omega arith);
        turn = λ a. absurd (omega (arith, a));
        index = λ a b. w.only (row q + 12) (λ i j. omega arith);
        winner = λ a b c. absurd (c refl);
        canonical = λ a k x y. w.only (row q + k) (λ i j. ne (omega arith));
      };
    }

    pub canonical_put : r ≡ false → PutCanonical m m₂ n p v true
    canonical_put f = record {
      told = ap not (sym f) ∙ told (value_of (seg m (row p + 60) 3)) old v is r e;
      long = u.long ∙ w.long;
      only = λ a x y. u.only a (λ i j. y i (omega arith)) ∙ w.only a (λ i j. x i (omega arith));
      value = ap value_of (seg_same m₁ m₂ (row p + 60) 3 (λ i h. u.only (row p + 60 + i) (λ x y. omega arith))) ∙ w.is;
      ranks = again m m₁ n 1 m₂ p but u;
    }

pub written_laid : {m m' : List ℕ} {n at : ℕ} {v : Value} → Laid m n → 64 ≤ at → Written m m' at v → Laid m' n
written_laid {m} {m'} {n} l h w = laid_same m m' n l (w.only 0 (λ x y. omega arith)) (w.only 1 (λ x y. omega arith)) w.long
