-- The rows below p have been wiped.
use mathlib.Core.Path.{◌≡◌, ◌∙◌}
use mathlib.Core.List.{List}
use Prim.Native.Nat.{ℕ, ◌+◌, ◌≤◌, ◌<◌}
use native.Mathlib.Omega.{arith}
use lib.Dec.{eqb}
use lib.ListN.{length}
use borrow.Author.Tests.{eqb-true, eqb-false}
use Rattle.model.proofs.Tools.{by_bool}
use Rattle.memory.specs.Words.{word, Stored}
use Rattle.memory.specs.Layout.{row}
use Rattle.memory.proofs.WordLaws.{stored_same, stored_other, stored_long}
use Rattle.relink.specs.Gathers.{Wiped}

pub record Wiping (m₀ m : List ℕ) (n p : ℕ) : Type 0 where
  pub below : p ≤ n
  pub long : length m ≡ length m₀
  pub winner : (q : ℕ) → q < p → word m (row q + 56) ≡ 0
  pub canonical : (q : ℕ) → q < p → word m (row q + 60) ≡ 0
  pub kids : (q : ℕ) → q < p → word m (row q + 64) ≡ 0
  pub only : (a : ℕ) → ((q : ℕ) → q < p → a ≡ row q + 56 → ⊥) → ((q : ℕ) → q < p → a ≡ row q + 60 → ⊥) → ((q : ℕ) → q < p → a ≡ row q + 64 → ⊥) → word m a ≡ word m₀ a

module _ (m₀ m m₁ m₂ m₃ : List ℕ) (n p : ℕ) (w : Wiping m₀ m n p) (p<n : p < n) (fits : row p + 68 ≤ length m₀)
    (s₁ : Stored m m₁ (row p + 56) 0) (s₂ : Stored m₁ m₂ (row p + 60) 0) (s₃ : Stored m₂ m₃ (row p + 64) 0) where
  at : (k : ℕ) → k < 68 → (q : ℕ) → q < p + 1 → (q ≡ p → word m₃ (row q + k) ≡ 0) → ((q < p) → word m (row q + k) ≡ 0) → word m₃ (row q + k) ≡ 0
  at k l q h here there = by_bool (eqb q p) (λ e. here (eqb-true q p e)) (λ e. let ne = eqb-false q p e in stored_other s₃ (row q + k) (λ z. ne (omega arith)) ∙ stored_other s₂ (row q + k) (λ z. ne (omega arith)) ∙ stored_other s₁ (row q + k) (λ z. ne (omega arith)) ∙ there (omega arith))

  pub wiping_more : Wiping m₀ m₃ n (p + 1)
  wiping_more =
      let l = w.long in
      let l₁ = stored_long s₁ in
      let l₂ = stored_long s₂ in
      record {
        below = omega arith;
        long = stored_long s₃ ∙ l₂ ∙ l₁ ∙ l;
        winner = λ q h. at 56 (omega arith) q h (λ e. rw e (stored_other s₃ (row p + 56) (λ z. omega arith) ∙ stored_other s₂ (row p + 56) (λ z. omega arith) ∙ stored_same s₁ (omega arith))) (w.winner q);
        canonical = λ q h. at 60 (omega arith) q h (λ e. rw e (stored_other s₃ (row p + 60) (λ z. omega arith) ∙ stored_same s₂ (omega arith))) (w.canonical q);
        kids = λ q h. at 64 (omega arith) q h (λ e. rw e (stored_same s₃ (omega arith))) (w.kids q);
        only = λ a f g h. stored_other s₃ a (h p (omega arith)) ∙ stored_other s₂ a (g p (omega arith)) ∙ stored_other s₁ a (f p (omega arith)) ∙ w.only a (λ q i. f q (omega arith)) (λ q i. g q (omega arith)) (λ q i. h q (omega arith));
      }

pub wiping_done : (m₀ m : List ℕ) (n p : ℕ) → Wiping m₀ m n p → n ≤ p → Wiped m₀ m n
wiping_done m₀ m n p w l = record {
  long = w.long;
  winner = λ q h. w.winner q (omega arith);
  canonical = λ q h. w.canonical q (omega arith);
  kids = λ q h. w.kids q (omega arith);
  only = λ a f g h. let b = w.below in w.only a (λ q i. f q (omega arith)) (λ q i. g q (omega arith)) (λ q i. h q (omega arith));
}
