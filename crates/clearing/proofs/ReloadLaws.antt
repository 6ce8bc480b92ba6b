-- A reload: the head that it lays, and its number.
use mathlib.Core.Path.{◌≡◌, refl, sym, ap, ◌∙◌, subst}
use mathlib.Core.Bool.{Bool, true, false, not}
use mathlib.Core.List.{List}
use Prim.Native.Nat.{ℕ, ◌+◌, ◌≤◌, ◌<◌}
use native.Mathlib.Omega.{arith}
use lib.ListN.{length}
use lib.Dec.{eqb, ltb}
use borrow.Author.Tests.{ne_eqb, lt-ltb, le-ltb}
use Rattle.amount.specs.Choose.{◌if◌else◌}
use Rattle.model.specs.Holding.{empty}
use Rattle.model.specs.Numbers.{State, Call, reload, number, effect, step}
use Rattle.memory.specs.Words.{word, Stored}
use Rattle.memory.specs.Layout.{Laid}
use Rattle.memory.proofs.WordLaws.{stored_same, stored_other, stored_long, seg_same}
use Rattle.state.specs.View.{view_at, synced_of}
use Rattle.state.specs.Sound.{SoundAt}
use Rattle.state.specs.Moves.{Right}
use Rattle.state.proofs.ViewLaws.{state_eq}
use Rattle.state.proofs.SoundLaws.{laid_same}
use Rattle.clearing.specs.Blank.{Blank, Wiped}
use Rattle.clearing.specs.Calls.{Emptied, Reloads}

-- ---- the head, then all ----

module _ (m m₁ m₂ m₃ m₄ : List ℕ) (n g v : ℕ) (laid : Laid m n)
    (s₁ : Stored m m₁ 2 g) (s₂ : Stored m₁ m₂ 3 v) (s₃ : Stored m₂ m₃ 6 1) (s₄ : Stored m₃ m₄ 7 0) where
  long₄ : length m₄ ≡ length m
  long₄ = stored_long s₄ ∙ stored_long s₃ ∙ stored_long s₂ ∙ stored_long s₁

  kept₄ : (i : ℕ) → (i ≡ 2 → ⊥) → (i ≡ 3 → ⊥) → (i ≡ 6 → ⊥) → (i ≡ 7 → ⊥) → word m₄ i ≡ word m i
  kept₄ i a b c d = stored_other s₄ i d ∙ stored_other s₃ i c ∙ stored_other s₂ i b ∙ stored_other s₁ i a

  pub relay_laid : Laid m₄ n
  relay_laid = laid_same m m₄ n laid (kept₄ 0 (omega arith) (omega arith) (omega arith) (omega arith)) (kept₄ 1 (omega arith) (omega arith) (omega arith) (omega arith)) long₄

  at₂ : word m₄ 2 ≡ g
  at₂ = stored_other s₄ 2 (omega arith) ∙ stored_other s₃ 2 (omega arith) ∙ stored_other s₂ 2 (omega arith) ∙ stored_same s₁ (omega (arith, laid.fits))

  at₃ : word m₄ 3 ≡ v
  at₃ = stored_other s₄ 3 (omega arith) ∙ stored_other s₃ 3 (omega arith) ∙ stored_same s₂ (omega (arith, laid.fits, stored_long s₁))

  at₆ : word m₄ 6 ≡ 1
  at₆ = stored_other s₄ 6 (omega arith) ∙ stored_same s₃ (omega (arith, laid.fits, stored_long s₁, stored_long s₂))

  at₇ : word m₄ 7 ≡ 0
  at₇ = stored_same s₄ (omega (arith, laid.fits, stored_long s₁, stored_long s₂, stored_long s₃))

  pub relay_done : (m₅ : List ℕ) → Wiped m₄ m₅ n → Emptied m m₅ n g v
  unfolding view_at effect empty
  relay_done m₅ w = record {
    room = w.head 0 (omega arith) (omega arith) ∙ kept₄ 0 (omega arith) (omega arith) (omega arith) (omega arith) ∙ laid.room;
    sound = w.sound;
    state =
        state_eq (w.head 1 (omega arith) (omega arith) ∙ kept₄ 1 (omega arith) (omega arith) (omega arith) (omega arith)) w.cells
        (w.head 2 (omega arith) (omega arith) ∙ at₂) (w.head 3 (omega arith) (omega arith) ∙ at₃) w.journal
        (ap (λ (z : ℕ). eqb z 1) (w.head 6 (omega arith) (omega arith) ∙ at₆)) w.values
        (ap synced_of (seg_same m m₅ 8 3 (λ i h. w.head (8 + i) (omega arith) (omega arith) ∙ kept₄ (8 + i) (omega arith) (omega arith) (omega arith) (omega arith))))
        (ap (λ (z : ℕ). eqb z 1) (w.head 7 (omega arith) (omega arith) ∙ at₇));
    blank = w.blank;
  }

-- ---- the number ----

module _ (c : Call) (s : State) where
  accepted : number c s ≡ 0 → effect c s ≡ step c s
  unfolding step
  accepted e = rw e

  left : (number c s ≡ 0 → ⊥) → s ≡ step c s
  unfolding step
  left e = rw (ne_eqb (number c s) 0 e)

-- a call whose promises are about n, which is the room that the head names
right_at : (c : Call) (m m' : List ℕ) (n r : ℕ) → word m 0 ≡ n → word m' 0 ≡ n → r ≡ number c (view_at m n) → SoundAt m' n → view_at m' n ≡ step c (view_at m n) → Right c m m' r
right_at c m m' n r e e' x s y = record {
  number_is = x ∙ ap (λ (z : ℕ). number c (view_at m z)) (sym e);
  sound = subst (SoundAt m') (sym e') s;
  state = ap (view_at m') e' ∙ y ∙ ap (λ (z : ℕ). step c (view_at m z)) (sym e);
}

module _ (m : List ℕ) (g v : ℕ) where
  -- the memory is not laid out
  pub reload_nowhere : (Laid m (word m 0) → 0 ≡ word m 0) → Reloads g v m m 1
  reload_nowhere f = record {
    refused = λ h. refl;
    right = λ s. let e = f s.laid in let l = s.laid.some in absurd (omega arith);
    blank = λ z. absurd (omega arith);
  }

  module _ (n : ℕ) (laid : Laid m n) where
    number_by : (t : Bool) → ltb (word m 2) g ≡ t → (8 if not t else 0) ≡ number (reload g v) (view_at m n)
    unfolding number view_at
    number_by t e = rw e

    pub reload_early : g ≤ word m 2 → Reloads g v m m 8
    reload_early h =
        let z : 8 ≡ number (reload g v) (view_at m n) = number_by false (le-ltb (word m 2) g h) in
        record {
          refused = λ x. refl;
          right = λ s. right_at (reload g v) m m n 8 laid.room laid.room z (subst (SoundAt m) laid.room s) (left (reload g v) (view_at m n) (λ y. omega arith));
          blank = λ x. absurd (omega arith);
        }

    pub reload_done : (m' : List ℕ) → word m 2 < g → Emptied m m' n g v → Reloads g v m m' 0
    reload_done m' h d =
        let z : 0 ≡ number (reload g v) (view_at m n) = number_by true (lt-ltb (word m 2) g h) in
        record {
          refused = λ x. absurd (x refl);
          right = λ s. right_at (reload g v) m m' n 0 laid.room d.room z d.sound (d.state ∙ accepted (reload g v) (view_at m n) (sym z));
          blank = λ x. subst (Blank m') (sym d.room) d.blank;
        }
