-- Laws of the ring: which slot an age has, before and after an entry more.
use mathlib.Core.Path.{◌≡◌}
use Prim.Native.Nat.{ℕ, suc, ◌+◌, ◌<◌}
use native.Mathlib.Omega.{arith}
use lib.Dec.{ltb}
use borrow.Author.Tests.{lt-ltb, le-ltb, ltb-true, ltb-false}
use Rattle.amount.specs.Choose.{◌if◌else◌}
use Rattle.model.proofs.Tools.{by_bool}
use Rattle.journal.specs.Journal.{back}

module _ (j at : ℕ) (h : at < j) where
  pub back_below : (i : ℕ) → i < j → back j at i < j
  back_below i l =
      by_bool (ltb i at)
      (λ u. let v = ltb-true i at u in rw u (omega arith))
      (λ u. let v = ltb-false i at u in rw u (omega arith))

  -- the slot of the next entry is that of the oldest in a full ring, and of no other
  pub back_oldest : (i : ℕ) → suc i ≡ j → back j at i ≡ at
  back_oldest i e = rw (le-ltb i at (omega arith)) (omega arith)

  pub back_other : (i : ℕ) → suc i < j → back j at i ≡ at → ⊥
  back_other i l =
      by_bool (ltb i at)
      (λ u. let v = ltb-true i at u in rw u (λ z. omega arith))
      (λ u. let v = ltb-false i at u in rw u (λ z. omega arith))

  module _ (at' : ℕ) (e : at' ≡ (at + 1 if ltb (at + 1) j else 0)) where
    pub turn_below : at' < j
    turn_below =
        by_bool (ltb (at + 1) j)
        (λ t. let z : at' ≡ at + 1 = rw t at e in let l = ltb-true (at + 1) j t in omega arith)
        (λ t. let z : at' ≡ 0 = rw t at e in omega arith)

    pub back_first : back j at' 0 ≡ at
    back_first =
        by_bool (ltb (at + 1) j)
        (λ t. let z : at' ≡ at + 1 = rw t at e in rw (z, lt-ltb 0 (at + 1) (omega arith)) (omega arith))
        (λ t. let z : at' ≡ 0 = rw t at e in let l = ltb-false (at + 1) j t in rw z (omega arith))

    pub back_next : (i : ℕ) → suc i < j → back j at' (suc i) ≡ back j at i
    back_next i l =
        by_bool (ltb (at + 1) j)
        (λ t. let z : at' ≡ at + 1 = rw t at e in
        by_bool (ltb i at)
        (λ u. let v = ltb-true i at u in rw (z, u, lt-ltb (suc i) (at + 1) (omega arith)) (omega arith))
        (λ u. let v = ltb-false i at u in rw (z, u, le-ltb (suc i) (at + 1) (omega arith)) (omega arith)))
        (λ t. let z : at' ≡ 0 = rw t at e in let k = ltb-false (at + 1) j t in rw (z, le-ltb (suc i) 0 (omega arith), lt-ltb i at (omega arith)) (omega arith))
