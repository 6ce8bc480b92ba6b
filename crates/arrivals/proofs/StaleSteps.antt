-- The last sync no longer covers the present: word 7 of the head becomes 0, and nothing else moves.
use mathlib.Core.Path.{◌≡◌, ap}
use mathlib.Core.List.{List}
use Prim.Native.Nat.{ℕ, ◌≤◌, ◌<◌}
use native.Mathlib.Omega.{arith}
use lib.Dec.{eqb}
use Rattle.model.specs.Numbers.{stale}
use Rattle.memory.specs.Words.{word, Stored}
use Rattle.memory.specs.Layout.{ring, Laid}
use Rattle.memory.proofs.WordLaws.{stored_same, stored_other, stored_long}
use Rattle.state.specs.View.{view_at}
use Rattle.state.specs.Sound.{SoundAt}
use Rattle.state.specs.Moves.{Moves}
use Rattle.state.proofs.HeadSteps.{head_laid, head_apart, head_view, head_sound}
use Rattle.state.proofs.ViewLaws.{journal_same}
use Rattle.state.proofs.SoundLaws.{journaled_same}

module _ (m m' : List ℕ) (n : ℕ) (laid : Laid m n) (st : Stored m m' 7 0) where
  other : (a : ℕ) → (a ≡ 7 → ⊥) → word m' a ≡ word m a
  other a h = stored_other st a h

  only : (a : ℕ) → (3 ≤ a → a < 8 → ⊥) → a < ring n → word m' a ≡ word m a
  only a h l = other a (λ z. h (omega arith) (omega arith))

  late : (a : ℕ) → ring n ≤ a → word m' a ≡ word m a
  late a h = other a (λ z. omega arith)

  stale_view : view_at m' n ≡ stale (view_at m n) (view_at m n).holdings
  unfolding view_at
  stale_view =
      head_view m m' n laid only (stored_long st) (other 3 (λ z. omega arith))
      (journal_same m m' n (other 1 (λ z. omega arith)) (other 5 (λ z. omega arith)) late (other 4 (λ z. omega arith)))
      (ap (λ (z : ℕ). eqb z 1) (other 6 (λ z. omega arith))) (ap (λ (z : ℕ). eqb z 1) (stored_same st (let f = laid.fits in omega arith)))

  stale_sound : SoundAt m n → SoundAt m' n
  stale_sound s =
      head_sound m m' n laid (λ a f h. only a (λ x y. f (omega arith) (omega arith)) h) (stored_long st) s
      (journaled_same m m' n (other 1 (λ z. omega arith)) (other 4 (λ z. omega arith)) (other 5 (λ z. omega arith)) late s.journal)

  pub stale_moves : Moves m m' n (Unit {0}) (stale (view_at m n) (view_at m n).holdings)
  stale_moves = record {
    laid = head_laid m m' n laid (λ a f h. only a (λ x y. f (omega arith) (omega arith)) h) (stored_long st);
    right = λ s u. record { sound = stale_sound s; state = stale_view };
    apart = λ s u. head_apart m m' n laid (λ a f h. only a (λ x y. f (omega arith) (omega arith)) h) (stored_long st);
  }
