-- Laws of a linked value: its three words, and tests of amounts, over plain words and numbers.
use mathlib.Core.Path.{◌≡◌, refl, sym, ap, ◌∙◌}
use mathlib.Core.Bool.{Bool, true, false, ◌&&◌, beq}
use mathlib.Core.List.{List}
use Prim.Native.Nat.{ℕ, suc, ◌+◌, ◌-◌, ◌≤◌}
use native.Mathlib.Omega.{arith}
use lib.Dec.{eqb, ltb, leb}
use lib.ListN.{length}
use borrow.Author.Tests.{eqb-true, eqb-false, eq-eqb, ne_eqb}
use Rattle.amount.specs.Choose.{◌if◌else◌}
use Rattle.amount.specs.Value.{value, from_words}
use Rattle.amount.specs.declared.Amount.{Amount}
use Rattle.model.specs.Standing.{unlinked, linked}
use Rattle.model.proofs.Tools.{by_bool}
use Rattle.memory.specs.Words.{word, seg, Stored}
use Rattle.memory.proofs.WordLaws.{stored_same, stored_other, stored_long}
use Rattle.rows.specs.Rows.{value_of}
use Rattle.values.specs.Values.{Written}
use Rattle.values.specs.declared.Value.TheVariants.{None, Linked}

-- ---- three words ----

pub value_none : (m : List ℕ) (at : ℕ) → word m at ≡ 0 → unlinked ≡ value_of (seg m at 3)
unfolding value_of
value_none m at e = let z : word m (at + 0) ≡ 0 = ap (word m) (omega arith) ∙ e in rw z

pub value_some : (m : List ℕ) (at k x y w : ℕ) → word m at ≡ k → (k ≡ 0 → ⊥) → word m (at + 1) ≡ x → word m (at + 2) ≡ y → w ≡ from_words x y → linked w (eqb k 2) ≡ value_of (seg m at 3)
unfolding value_of
value_some m at k x y w e ne f g h = let z : word m (at + 0) ≡ k = ap (word m) (omega arith) ∙ e in rw (z, f, g, ne_eqb k 0 ne, h)

module _ (m m' : List ℕ) (at : ℕ) (fits : at + 3 ≤ length m) (s : Stored m m' at 0) where
  pub none_written : Written m m' at None
  none_written =
      record {
        is = sym (value_none m' at (stored_same s (omega arith)));
        only = λ i h. stored_other s i (λ e. h (omega arith) (omega arith));
        long = stored_long s;
      }

kind_there : (ok : Bool) (k : ℕ) → k ≡ (2 if ok else 1) → (k ≡ 0 → ⊥) × (eqb k 2 ≡ ok)
kind_there true k e = (λ z. omega arith, rw e)
kind_there false k e = (λ z. omega arith, rw e)

module _ (m m₁ m₂ m₃ : List ℕ) (at k x y : ℕ) (w : Amount) (ok : Bool) (fits : at + 3 ≤ length m) (kind : k ≡ (2 if ok else 1)) (work : from_words x y ≡ value w)
    (s₁ : Stored m m₁ at k) (s₂ : Stored m₁ m₂ (at + 1) x) (s₃ : Stored m₂ m₃ (at + 2) y) where
  pub linked_written : Written m m₃ at (Linked w ok)
  linked_written =
      let l₁ = stored_long s₁ in
      let l₂ = stored_long s₂ in
      let there : (k ≡ 0 → ⊥) × (eqb k 2 ≡ ok) = kind_there ok k kind in
      record {
        is =
            sym (value_some m₃ at k x y (value w)
            (stored_other s₃ at (omega arith) ∙ stored_other s₂ at (omega arith) ∙ stored_same s₁ (omega arith)) there.0
            (stored_other s₃ (at + 1) (omega arith) ∙ stored_same s₂ (omega arith)) (stored_same s₃ (omega arith)) (sym work))
            ∙ ap (linked (value w)) there.1;
        only = λ i h. stored_other s₃ i (λ e. h (omega arith) (omega arith)) ∙ stored_other s₂ i (λ e. h (omega arith) (omega arith)) ∙ stored_other s₁ i (λ e. h (omega arith) (omega arith));
        long = stored_long s₃ ∙ l₂ ∙ l₁;
      }

-- ---- tests ----

pub beq-true : (t : Bool) → t ≡ beq true t
beq-true true = refl
beq-true false = refl

pub no_less : (j i : ℕ) → i ≡ 0 → false ≡ eqb (suc j) i
no_less j i e = sym (ne_eqb (suc j) i (λ z. omega arith))

pub one_less : (j i : ℕ) → (i ≡ 0 → ⊥) → eqb (i - 1) j ≡ eqb (suc j) i
one_less j i ne =
    by_bool (eqb (suc j) i)
    (λ e. let z : suc j ≡ i = eqb-true (suc j) i e in eq-eqb (i - 1) j (omega arith) ∙ sym e)
    (λ e. let z : suc j ≡ i → ⊥ = eqb-false (suc j) i e in ne_eqb (i - 1) j (λ y. z (omega arith)) ∙ sym e)

-- the target is above 0, or not
pub reached : (z t a : ℕ) (r : Bool) → z ≡ 0 → ltb z t ≡ true → leb t a ≡ r → r ≡ (ltb 0 t && leb t a)
reached z t a r e f g = let k : ltb 0 t ≡ true = ap (λ (x : ℕ). ltb x t) (sym e) ∙ f in rw (k, g)

pub unreached : (z t a : ℕ) → z ≡ 0 → ltb z t ≡ false → false ≡ (ltb 0 t && leb t a)
unreached z t a e f = let k : ltb 0 t ≡ false = ap (λ (x : ℕ). ltb x t) (sym e) ∙ f in rw k
