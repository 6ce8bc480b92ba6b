-- A start: the head that it lays, and its number.
use mathlib.Core.Path.{◌≡◌, refl, sym, ap, ◌∙◌, subst}
use mathlib.Core.Bool.{Bool, true, false, ◌&&◌}
use mathlib.Core.List.{List}
use Prim.Native.Nat.{ℕ, ◌≤◌, ◌<◌}
use native.Mathlib.Omega.{arith}
use lib.ListN.{length}
use lib.Dec.{eqb, leb}
use borrow.Author.Tests.{le-leb, lt-leb}
use Rattle.amount.specs.Choose.{◌if◌else◌}
use Rattle.model.specs.Holding.{empty}
use Rattle.model.specs.Numbers.{begin, start_number, Modest}
use Rattle.memory.specs.Words.{word, Four}
use Rattle.memory.specs.Layout.{need, Laid}
use Rattle.state.specs.View.{view_at, synced_of}
use Rattle.state.specs.Sound.{SoundAt}
use Rattle.state.proofs.ViewLaws.{state_eq}
use Rattle.clearing.specs.Blank.{Blank, Wiped}
use Rattle.clearing.specs.Calls.{Begun, Starts}

-- document 01's bound on the memory that a start asks for
pub need_modest : Modest need
need_modest n j = omega arith

module _ (m m₁ m₂ : List ℕ) (n j g v : ℕ) (some : 1 ≤ n) (few : n ≤ 32768) (some_j : 1 ≤ j) (few_j : j ≤ 200000) (fits : need n j ≤ length m)
    (f₁ : Four m m₁ 0 n j g v) (f₂ : Four m₁ m₂ 6 1 0 0 0) where
  low : (i : ℕ) → i < 4 → word m₂ i ≡ word m₁ i
  low i h = f₂.only i (omega arith)

  w₀ : word m₂ 0 ≡ n
  w₀ = low 0 (omega arith) ∙ ap (λ (z : ℕ → ℕ). z 0) f₁.is

  w₁ : word m₂ 1 ≡ j
  w₁ = low 1 (omega arith) ∙ ap (λ (z : ℕ → ℕ). z 1) f₁.is

  pub lay_laid : Laid m₂ n
  lay_laid =
      let l : length m₂ ≡ length m = f₂.long ∙ f₁.long in
      record { room = w₀; some = some; few = few; some_j = omega (arith, w₁); few_j = omega (arith, w₁); fits = omega (arith, w₁) }

  pub lay_done : (m₃ : List ℕ) → Wiped m₂ m₃ n → Begun m₃ n j g v
  unfolding view_at empty synced_of
  lay_done m₃ w = record {
    room = w.head 0 (omega arith) (omega arith) ∙ w₀;
    sound = w.sound;
    state =
        let e₈ : word m₃ 8 ≡ 0 = w.head 8 (omega arith) (omega arith) ∙ ap (λ (z : ℕ → ℕ). z 2) f₂.is in
        state_eq (w.head 1 (omega arith) (omega arith) ∙ w₁) w.cells
        (w.head 2 (omega arith) (omega arith) ∙ low 2 (omega arith) ∙ ap (λ (z : ℕ → ℕ). z 2) f₁.is)
        (w.head 3 (omega arith) (omega arith) ∙ low 3 (omega arith) ∙ ap (λ (z : ℕ → ℕ). z 3) f₁.is) w.journal
        (ap (λ (z : ℕ). eqb z 1) (w.head 6 (omega arith) (omega arith) ∙ ap (λ (z : ℕ → ℕ). z 0) f₂.is)) w.values (rw e₈)
        (ap (λ (z : ℕ). eqb z 1) (w.head 7 (omega arith) (omega arith) ∙ ap (λ (z : ℕ → ℕ). z 1) f₂.is));
    blank = w.blank;
  }

-- ---- the number ----

module _ (n j g v : ℕ) (m : List ℕ) where
  number_by : (t₀ t₁ t₂ t₃ t₄ : Bool) → leb 1 n ≡ t₀ → leb n 32768 ≡ t₁ → leb 1 j ≡ t₂ → leb j 200000 ≡ t₃ → leb (need n j) (length m) ≡ t₄
      → (0 if t₀ && t₁ && t₂ && t₃ && t₄ else 1) ≡ start_number need (length m) n j
  number_by t₀ t₁ t₂ t₃ t₄ e₀ e₁ e₂ e₃ e₄ = rw (e₀, e₁, e₂, e₃, e₄)

  refused_by : 1 ≡ start_number need (length m) n j → Starts n j g v m m 1
  refused_by e = record { number_is = e; refused = λ h. refl; sound = λ z. absurd (omega arith); state = λ z. absurd (omega arith); blank = λ z. absurd (omega arith) }

  pub no_hash : n ≡ 0 → Starts n j g v m m 1
  no_hash h = refused_by (number_by false _ _ _ _ (lt-leb 1 n (omega arith)) refl refl refl refl)

  module _ (some : 1 ≤ n) where
    pub many_hashes : 32768 < n → Starts n j g v m m 1
    many_hashes h = refused_by (number_by true false _ _ _ (le-leb 1 n some) (lt-leb n 32768 h) refl refl refl)

    module _ (few : n ≤ 32768) where
      pub no_journal : j ≡ 0 → Starts n j g v m m 1
      no_journal h = refused_by (number_by true true false _ _ (le-leb 1 n some) (le-leb n 32768 few) (lt-leb 1 j (omega arith)) refl refl)

      module _ (some_j : 1 ≤ j) where
        pub long_journal : 200000 < j → Starts n j g v m m 1
        long_journal h = refused_by (number_by true true true false _ (le-leb 1 n some) (le-leb n 32768 few) (le-leb 1 j some_j) (lt-leb j 200000 h) refl)

        module _ (few_j : j ≤ 200000) where
          pub short_memory : length m < need n j → Starts n j g v m m 1
          short_memory h = refused_by (number_by true true true true false (le-leb 1 n some) (le-leb n 32768 few) (le-leb 1 j some_j) (le-leb j 200000 few_j) (lt-leb (need n j) (length m) h))

          pub start_done : (m' : List ℕ) → need n j ≤ length m → Begun m' n j g v → Starts n j g v m m' 0
          start_done m' h b = record {
            number_is = number_by true true true true true (le-leb 1 n some) (le-leb n 32768 few) (le-leb 1 j some_j) (le-leb j 200000 few_j) (le-leb (need n j) (length m) h);
            refused = λ h. absurd (h refl);
            sound = λ z. subst (SoundAt m') (sym b.room) b.sound;
            state = λ z. subst (λ (x : ℕ). view_at m' x ≡ begin n j g v) (sym b.room) b.state;
            blank = λ z. subst (Blank m') (sym b.room) b.blank;
          }
