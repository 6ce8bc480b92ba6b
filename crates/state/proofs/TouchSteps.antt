-- A touch, between states of the model: one more version, one more journal entry, loading closed, the tree stale.
use mathlib.Core.Path.{◌≡◌, ap}
use mathlib.Core.List.{List}
use Prim.Native.Nat.{ℕ, ◌≤◌, ◌<◌}
use native.Mathlib.Omega.{arith}
use lib.Dec.{eqb}
use Rattle.model.specs.Holding.{touch}
use Rattle.model.specs.Numbers.{State, stale, max_word}
use Rattle.memory.specs.Words.{word}
use Rattle.memory.specs.Layout.{ring, Laid}
use Rattle.journal.specs.Touches.{Touches}
use Rattle.state.specs.View.{view_at}
use Rattle.state.specs.Sound.{SoundAt}
use Rattle.state.specs.Moves.{Moves}
use Rattle.state.proofs.HeadSteps.{head_laid, head_apart, head_view, head_sound}

abbrev pub touched : ℕ → State → State
touched x s = stale s (touch x s.holdings)

module _ (m m' : List ℕ) (n x : ℕ) (laid : Laid m n) (t : Touches m m' n x) where
  only : (a : ℕ) → (3 ≤ a → a < 8 → ⊥) → a < ring n → word m' a ≡ word m a
  only a h l = t.only a h (omega arith)

  module _ (s : SoundAt m n) (more : (view_at m n).holdings.version ≡ max_word → ⊥) where
    touch_view : view_at m' n ≡ touched x (view_at m n)
    unfolding view_at touch
    touch_view = head_view m m' n laid only t.long (t.version more) (t.journal s.journal) (ap (λ (z : ℕ). eqb z 1) t.loading) (ap (λ (z : ℕ). eqb z 1) t.fresh)

  pub touch_moves : Moves m m' n ((view_at m n).holdings.version ≡ max_word → ⊥) (touched x (view_at m n))
  touch_moves = record {
    laid = head_laid m m' n laid (λ a f h. only a (λ x y. f (omega arith) (omega arith)) h) t.long;
    right = λ s e. record { sound = head_sound m m' n laid (λ a f h. only a (λ x y. f (omega arith) (omega arith)) h) t.long s (t.journaled s.journal); state = touch_view s e };
    apart = λ s e. head_apart m m' n laid (λ a f h. only a (λ x y. f (omega arith) (omega arith)) h) t.long;
  }
