-- Laws of the state word of an effective copy.
use mathlib.Core.Path.{◌≡◌, ap, ◌∙◌}
use mathlib.Core.Bool.{Bool, true, false}
use mathlib.Core.List.{List}
use Prim.Native.Nat.{ℕ, ◌+◌, ◌-◌, ◌≤◌}
use native.Mathlib.Omega.{arith}
use lib.ListN.{length}
use lib.Dec.{eqb}
use Rattle.model.specs.Places.{is_some}
use Rattle.model.specs.Holding.{is_held, is_live, is_canonical, copy_is_live, copy_is_canonical}
use Rattle.model.proofs.Tools.{by_bool}
use Rattle.block.specs.Words.{copy_of}
use Rattle.memory.specs.Words.{word, Stored}
use Rattle.memory.proofs.WordLaws.{stored_same, stored_other, stored_long}
use Rattle.rows.specs.Rows.{copy_at}
use Rattle.rows.specs.Written.{Stands}
use Rattle.places.specs.Status.{held_by, live_by, canonical_by, Says, Moved, Tallied}

module _ (m : List ℕ) (at r : ℕ) (s : Stands m at r) where
  first : word m (r + 0) ≡ word m r
  first = ap (word m) (omega arith)

  pub says : Says m at (word m r)
  unfolding is_held is_live is_canonical copy_at copy_of
  says =
      record {
        effective = ap is_some s.is ∙ by_bool (eqb (word m r) 0) (λ e. rw (first, e)) (λ e. rw (first, e));
        live = ap copy_is_live s.is ∙ by_bool (eqb (word m r) 0) (λ e. rw (first, e)) (λ e. rw (first, e));
        canonical = ap copy_is_canonical s.is ∙ by_bool (eqb (word m r) 0) (λ e. rw (first, e)) (λ e. rw (first, e));
      }

module _ (m m₁ m₂ m₃ : List ℕ) (was is e l c : ℕ) (fits : 64 ≤ length m)
    (e_is : Moved (word m 11) (held_by was) (held_by is) e) (l_is : Moved (word m 12) (live_by was) (live_by is) l) (c_is : Moved (word m 13) (canonical_by was) (canonical_by is) c)
    (s₁ : Stored m m₁ 11 e) (s₂ : Stored m₁ m₂ 12 l) (s₃ : Stored m₂ m₃ 13 c) where
  pub tally_done : Tallied m m₃ was is
  tally_done =
      let l₁ = stored_long s₁ in
      let l₂ = stored_long s₂ in
      let w₁ : word m₃ 11 ≡ e = stored_other s₃ 11 (omega arith) ∙ stored_other s₂ 11 (omega arith) ∙ stored_same s₁ (omega arith) in
      let w₂ : word m₃ 12 ≡ l = stored_other s₃ 12 (omega arith) ∙ stored_same s₂ (omega arith) in
      let w₃ : word m₃ 13 ≡ c = stored_same s₃ (omega arith) in
      record {
        effective = λ a b. rw w₁ (e_is a b);
        live = λ a b. rw w₂ (l_is a b);
        canonical = λ a b. rw w₃ (c_is a b);
        only = λ i h. stored_other s₃ i (λ z. h (omega arith) (omega arith)) ∙ stored_other s₂ i (λ z. h (omega arith) (omega arith)) ∙ stored_other s₁ i (λ z. h (omega arith) (omega arith));
        long = stored_long s₃ ∙ l₂ ∙ l₁;
      }

-- ---- a count that follows ----

pub moved_same : (c : ℕ) (was is t : Bool) → was ≡ t → is ≡ t → Moved c was is c
moved_same c was is t e f = λ a b. rw (e, f)

pub moved_out : (c : ℕ) (was is : Bool) → was ≡ true → is ≡ false → Moved c was is (c - 1)
moved_out c was is e f = λ a b. let l : 1 ≤ c = rw e at a in rw (e, f) (omega arith)

pub moved_in : (c : ℕ) (was is : Bool) → was ≡ false → is ≡ true → Moved c was is (c + 1)
moved_in c was is e f = λ a b. rw (e, f) (omega arith)

-- where it would wrap, what is asked does not hold
pub moved_none : (c : ℕ) (was is : Bool) → was ≡ true → c ≡ 0 → Moved c was is 0
moved_none c was is e z = λ a b. let l : 1 ≤ c = rw e at a in absurd (omega arith)
