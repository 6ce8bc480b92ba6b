-- No values: rows are wiped, the roster of leaves and the two rank contests are empty.
use mathlib.Core.Path.{◌≡◌, refl, sym, ◌∙◌, fun_ext}
use mathlib.Core.Bool.{true, false, ◌&&◌}
use mathlib.Core.List.{List}
use Prim.Native.Nat.{ℕ, ◌+◌, ◌*◌, ◌≤◌, ◌<◌}
use native.Mathlib.Omega.{arith}
use lib.Dec.{eqb, ltb}
use borrow.Author.Tests.{ltb-true}
use Rattle.model.specs.Standing.{Spine, winner, canonical, unlinked}
use Rattle.model.proofs.Tools.{by_bool, no_both}
use Rattle.model.proofs.Sums.{sum_none}
use Rattle.memory.specs.Words.{word, seg, Stored}
use Rattle.memory.specs.Layout.{row, nodes, leaves_at, Laid}
use Rattle.memory.proofs.WordLaws.{stored_other, stored_long}
use Rattle.contest.specs.Keys.{enters}
use Rattle.contest.specs.Contests.{Cleared}
use Rattle.contest.proofs.KeyLaws.{enters_no}
use Rattle.contest.proofs.Uses.{Same, still}
use Rattle.roster.proofs.RosterLaws.{roster_frame, roster_same, clear_well, clear_out}
use Rattle.rows.specs.Rows as rows
use Rattle.rows.specs.Rows.{value_of}
use Rattle.state.specs.View.{values_of}
use Rattle.state.proofs.SoundLaws.{laid_same}
use Rattle.kin.specs.Kin.{linked_at, up_at}
use Rattle.relink.specs.Treed.{Treed}
use Rattle.relink.specs.Turned.{ValueOnly}
use Rattle.relink.specs.Gathers.{Wiped, Resets}
use Rattle.relink.proofs.TreedLaws.{listless_same}

pub stored_laid : (m m' : List ℕ) (n a v : ℕ) → Laid m n → 2 ≤ a → Stored m m' a v → Laid m' n
stored_laid m m' n a v l h s = laid_same m m' n l (stored_other s 0 (λ e. omega arith)) (stored_other s 1 (λ e. omega arith)) (stored_long s)

pub cleared_laid : (m m' : List ℕ) (n k : ℕ) → Laid m n → Cleared n k m m' → Laid m' n
cleared_laid m m' n k l c = laid_same m m' n l (c.only 0 (λ x y. omega arith)) (c.only 1 (λ x y. omega arith)) c.long

module _ (m m₁ m₂ m₃ m₄ : List ℕ) (n : ℕ) (laid : Laid m n) (s₁ : Wiped m m₁ n) (s₂ : Stored m₁ m₂ 14 0) (s₃ : Cleared n 0 m₂ m₃) (s₄ : Cleared n 1 m₃ m₄) where
  -- outside of the two contests' nodes and the number of leaves, only the rows are written
  late : (a : ℕ) → (nodes n 0 ≤ a → a < nodes n 2 → ⊥) → (a ≡ 14 → ⊥) → word m₄ a ≡ word m₁ a
  late a f g = s₄.only a (λ x y. f (omega arith) (omega arith)) ∙ s₃.only a (λ x y. f (omega arith) (omega arith)) ∙ stored_other s₂ a g

  zero_at : (q k : ℕ) → q < n → k < 68 → word m₁ (row q + k) ≡ 0 → word m₄ (row q + k) ≡ 0
  zero_at q k h l e = late (row q + k) (λ x y. omega arith) (λ z. omega arith) ∙ e

  passes : (a : ℕ) → (nodes n 0 ≤ a → a < nodes n 2 → ⊥) → (a ≡ 14 → ⊥) → ((q : ℕ) → q < n → a ≡ row q + 56 → ⊥) → ((q : ℕ) → q < n → a ≡ row q + 60 → ⊥) → ((q : ℕ) → q < n → a ≡ row q + 64 → ⊥) → word m₄ a ≡ word m a
  passes a f g x y z = late a f g ∙ s₁.only a x y z

  only : ValueOnly m m₄ n
  only = record {
    long = s₄.long ∙ s₃.long ∙ stored_long s₂ ∙ s₁.long;
    head = λ a h e. passes a (λ b c. omega arith) e (λ r i z. omega arith) (λ r i z. omega arith) (λ r i z. omega arith);
    rows = λ q k h l f.
        passes (row q + k) (λ x y. omega arith) (λ e. omega arith) (λ x i e. f (omega arith) (λ z. omega arith) (λ z. omega arith)) (λ x i e. f (omega arith) (λ z. omega arith) (λ z. omega arith)) (λ x i e. f (omega arith) (λ z. omega arith) (λ z. omega arith));
    indexes = λ a x y. passes a (λ b c. omega arith) (λ e. omega arith) (λ r i z. omega arith) (λ r i z. omega arith) (λ r i z. omega arith);
    contests = λ a x y. passes a (λ b c. omega arith) (λ e. omega arith) (λ r i z. omega arith) (λ r i z. omega arith) (λ r i z. omega arith);
    rest = λ a x. passes a (λ b c. omega arith) (λ e. omega arith) (λ r i z. omega arith) (λ r i z. omega arith) (λ r i z. omega arith);
  }

  no_value : (q k : ℕ) → q < n → k < 68 → word m₄ (row q + k) ≡ 0 → value_of (seg m₄ (row q + k) 3) ≡ unlinked
  unfolding value_of
  no_value q k h l e = let z : row q + k + 0 ≡ row q + k = omega arith in let f : word m₄ (row q + k + 0) ≡ 0 = rw z e in rw f

  values : values_of m₄ n ≡ (λ w p. unlinked)
  values = fun_ext (λ w. fun_ext (λ q. by_bool (ltb q n) (λ e. rw e (at w q (ltb-true q n e))) (λ e. rw e)))
    where
      at : (w : Spine) (q : ℕ) → q < n → rows.value_at m₄ w q ≡ unlinked
      at winner q h = no_value q 56 h (omega arith) (zero_at q 56 h (omega arith) (s₁.winner q h))
      at canonical q h = no_value q 60 h (omega arith) (zero_at q 60 h (omega arith) (s₁.canonical q h))

  unlinked_all : (q : ℕ) → q < n → linked_at m₄ q ≡ false
  unlinked_all q h = enters_no m₄ 0 q (zero_at q 56 h (omega arith) (s₁.winner q h))

  canonical_none : (z : List ℕ) (q : ℕ) → word z (row q + 60) ≡ 0 → enters z 1 q ≡ false
  canonical_none z q e = enters_no z 1 q e

  treed : Treed m n → Treed m₄ n
  treed t =
      let f = laid.fits in
      let l₁ = s₁.long in
      let l₂ = stored_long s₂ in
      record {
        winners = still m₃ m₄ n 0 laid.few first (s₃.tree (λ q h. enters_no m₂ 0 q (stored_other s₂ (row q + 56) (λ e. omega arith) ∙ s₁.winner q h)));
        canonicals = s₄.tree (λ q h. enters_no m₃ 1 q (s₃.only (row q + 60) (λ x y. omega arith) ∙ stored_other s₂ (row q + 60) (λ e. omega arith) ∙ s₁.canonical q h));
        kin = record {
          counts = λ q h. zero_at q 64 h (omega arith) (s₁.kids q h) ∙ sym (sum_none (λ p. linked_at m₄ p && eqb (up_at m₄ p) q) n (λ p l. let e = unlinked_all p l in rw e));
          roster = roster_frame m₂ m₄ n (leaves_at n) 14 130 (after 14 (λ x y. omega arith)) (λ i h. after (leaves_at n + i) (λ x y. omega arith)) (λ q h. after (130 + 68 * q) (λ x y. omega arith)) (clear_well n (leaves_at n) 130 s₂ (omega arith));
          leaf = λ q h. roster_same m₂ m₄ n (leaves_at n) 14 130 (after 14 (λ x y. omega arith)) (λ i h. after (leaves_at n + i) (λ x y. omega arith)) (λ q h. after (130 + 68 * q) (λ x y. omega arith)) q h ∙ clear_out n (leaves_at n) 130 s₂ (omega arith) q ∙ (let e = unlinked_all q h in rw e);
        };
        linked = λ p h e. no_both true refl (sym e ∙ unlinked_all p h);
        canonical = λ p h e. no_both true refl (sym e ∙ canonical_none m₄ p (zero_at p 60 h (omega arith) (s₁.canonical p h)));
        above = λ p h e. no_both true refl (sym e ∙ unlinked_all p h);
        listless =
            listless_same m m₄ n laid
            (λ q h. passes (row q + 63) (λ x y. omega arith) (λ e. omega arith) (λ q h e. omega arith) (λ q h e. omega arith) (λ q h e. omega arith))
            (λ j h. passes (nodes n 4 + j) (λ x y. omega arith) (λ e. omega arith) (λ q h e. omega arith) (λ q h e. omega arith) (λ q h e. omega arith))
            t.listless;
      }
    where
      after : (a : ℕ) → (nodes n 0 ≤ a → a < nodes n 2 → ⊥) → word m₄ a ≡ word m₂ a
      after a f = s₄.only a (λ x y. f (omega arith) (omega arith)) ∙ s₃.only a (λ x y. f (omega arith) (omega arith))

      first : Same n 0 m₃ m₄
      first = record {
        node = λ j h. s₄.only (nodes n 0 + j) (λ x y. omega arith);
        marks = λ q h. s₄.only (row q + 56) (λ x y. omega arith);
        keys = λ q h e. record {
          hash = λ a i x y. s₄.only (row q + i) (λ b c. omega arith);
          turn = λ a. absurd (omega (arith, a));
          index = λ a b. s₄.only (row q + 12) (λ x y. omega arith);
          winner = λ a b c i x y. s₄.only (row q + i) (λ d f. omega arith);
          canonical = λ a. absurd (omega (arith, a));
        };
      }

  pub reset_done : Resets m m₄ n
  reset_done = record { only = only; values = values; treed = treed }
