-- All the turns of a sync: the two laws of `settled`, which tell it, and that in the end every place is consistent.
use Prim.Native.Nat.{ℕ, zero, suc, ◌≤◌}
use mathlib.Core.Path.{◌≡◌, refl, sym, ◌∙◌}
use mathlib.Core.Bool.{Bool, true, false, ◌&&◌}
use mathlib.Core.Option.{none, some}
use native.Mathlib.Omega.{arith}
use lib.Dec.{ltb}
use borrow.Author.Tests.{ltb-true, ltb-false}
use Rattle.model.specs.Holding.{Holdings, is_free}
use Rattle.model.specs.Standing.{Spine, Values}
use Rattle.model.specs.Relink.{Pending, moves, worked, after, goes_before, next, settle, turns, settled}
use Rattle.model.proofs.Tools.{by_bool, by_option, pick-none}
use Rattle.model.proofs.Turn.{Consistent, turn_consistent, follows_free}
use Rattle.model.proofs.Turns.{bound, turns_fall, turns_start}
use Rattle.model.proofs.Parent.{Distinct, next_agrees}

module _ (h : Holdings) where
  -- ---- the laws of `settled`: one turn, and the end ----

  settle-none : (f : ℕ) (v : Values) (pend : Pending) → next h pend ≡ none → settle f h v pend ≡ v
  unfolding settle
  settle-none zero v pend e = refl
  settle-none (suc f) v pend e = rw (e, settle)

  settle-some : (f : ℕ) (v : Values) (pend : Pending) (p : ℕ) → next h pend ≡ some p → settle (suc f) h v pend ≡ settle f h (worked h v p) (after h v p pend)
  unfolding settle
  settle-some f v pend p e = rw (e, settle)

  -- with turns enough, one more or less is the same
  settle_enough : (f g : ℕ) (v : Values) (pend : Pending) → bound h v pend ≤ f → bound h v pend ≤ g → settle f h v pend ≡ settle g h v pend
  settle_enough zero g v pend i j = by_option (next h pend) (λ e. settle-none zero v pend e ∙ sym (settle-none g v pend e)) (λ p e. absurd (omega (arith, turns_fall h v pend p e)))
  settle_enough (suc f) zero v pend i j = by_option (next h pend) (λ e. settle-none (suc f) v pend e ∙ sym (settle-none zero v pend e)) (λ p e. absurd (omega (arith, turns_fall h v pend p e)))
  settle_enough (suc f) (suc g) v pend i j = by_option (next h pend) (λ e. settle-none (suc f) v pend e ∙ sym (settle-none (suc g) v pend e)) (λ p e. settle-some f v pend p e ∙ settle_enough f g (worked h v p) (after h v p pend) (omega (arith, turns_fall h v pend p e)) (omega (arith, turns_fall h v pend p e)) ∙ sym (settle-some g v pend p e))

  pub settled-none : (v : Values) (pend : Pending) → next h pend ≡ none → settled h v pend ≡ v
  unfolding settled
  settled-none v pend e = settle-none (turns h.room) v pend e

  pub settled-some : (v : Values) (pend : Pending) (p : ℕ) → next h pend ≡ some p → settled h v pend ≡ settled h (worked h v p) (after h v p pend)
  unfolding settled
  settled-some v pend p e =
      settle_enough (turns h.room) (suc (turns h.room)) v pend (turns_start h v pend) (omega (arith, turns_start h v pend))
      ∙ settle-some (turns h.room) v pend p e

  -- ---- what holds of the values that turns keep ----

  -- induction over the turns
  pub settled_induction : (P : Values → Pending → Type 0) (Q : Values → Type 0)
      → ((v : Values) (pend : Pending) → P v pend → next h pend ≡ none → Q v)
      → ((v : Values) (pend : Pending) (p : ℕ) → P v pend → next h pend ≡ some p → P (worked h v p) (after h v p pend))
      → (v : Values) (pend : Pending) → P v pend → Q (settled h v pend)
  settled_induction P Q end turn v pend k = go (bound h v pend) v pend (omega arith) k
    where
      go : (f : ℕ) (v : Values) (pend : Pending) → bound h v pend ≤ f → P v pend → Q (settled h v pend)
      go zero v pend i k = by_option (next h pend) (λ e. rw (settled-none v pend e) (end v pend k e)) (λ p e. absurd (omega (arith, turns_fall h v pend p e)))
      go (suc f) v pend i k = by_option (next h pend) (λ e. rw (settled-none v pend e) (end v pend k e)) (λ p e. rw (settled-some v pend p e) (go f (worked h v p) (after h v p pend) (omega (arith, turns_fall h v pend p e)) (turn v pend p k e)))

  -- what is not pending is consistent, and what is pending has room
  pub record Kept (w : Spine) (v : Values) (pend : Pending) : Type 0 where
    pub consistent : (q : ℕ) → pend q ≡ false → Consistent h w v q
    pub roomy : (q : ℕ) → is_free (h.cells q) ≡ true → pend q ≡ false

  kept_turn : (w : Spine) → Distinct h → (v : Values) (pend : Pending) (p : ℕ) → next h pend ≡ some p → Kept w v pend → Kept w (worked h v p) (after h v p pend)
  unfolding after
  kept_turn w distinct v pend p e k = record {
    consistent = turn_consistent h v p w pend k.consistent (next_agrees h distinct w v pend p e k.consistent);
    roomy = λ q e. rw (k.roomy q e, follows_free (h.cells p) (h.cells q) e) (and_no (moves h v p));
  }
    where
      and_no : (b : Bool) → (b && false) ≡ false
      and_no true = refl
      and_no false = refl

  -- at the end of the turns every place is consistent
  pub settled_consistent : (w : Spine) (v : Values) (pend : Pending) → Distinct h → ((q : ℕ) → h.room ≤ q → is_free (h.cells q) ≡ true) → Kept w v pend → (q : ℕ) → Consistent h w (settled h v pend) q
  settled_consistent w v pend distinct wide k = settled_induction (Kept w) (λ u. (q : ℕ) → Consistent h w u q) end (λ v pend p k e. kept_turn w distinct v pend p e k) v pend k
    where
      end : (v : Values) (pend : Pending) → Kept w v pend → next h pend ≡ none → (q : ℕ) → Consistent h w v q
      end v pend k e q = by_bool (ltb q h.room) (λ i. k.consistent q (pick-none pend (λ p q. goes_before (h.cells p) (h.cells q)) h.room q e (ltb-true q h.room i))) (λ i. k.consistent q (k.roomy q (wide q (ltb-false q h.room i))))

  -- `settled` is the one function with its two laws: its turns are no part of what it says
  pub settled_once : (f : Values → Pending → Values)
      → ((v : Values) (pend : Pending) → next h pend ≡ none → f v pend ≡ v)
      → ((v : Values) (pend : Pending) (p : ℕ) → next h pend ≡ some p → f v pend ≡ f (worked h v p) (after h v p pend))
      → (v : Values) (pend : Pending) → f v pend ≡ settled h v pend
  settled_once f end turn v pend = settled_induction (λ u p. f u p ≡ f v pend) (λ u. f v pend ≡ u) (λ u p k e. sym k ∙ end u p e) (λ u p q k e. sym (turn u p q e) ∙ k) v pend refl
