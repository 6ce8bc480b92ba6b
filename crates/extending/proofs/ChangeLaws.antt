-- Changes of one kind to the blocks of a list: which blocks they touch, and the copy after them, where the change done twice is the change done once.
use mathlib.Core.Path.{◌≡◌, refl, sym, ◌∙◌}
use mathlib.Core.Bool.{false, cond}
use mathlib.Core.List.{List, [], ◌∷◌}
use mathlib.Core.Option.{Option, none, some}
use Prim.Native.Nat.{ℕ, ◌+◌, ◌-◌}
use native.Mathlib.Omega.{arith}
use lib.Dec.{eqb}
use lib.IntN.{ℤ}
use borrow.Author.Tests.{eqb-true, eqb-false, eq-eqb, ne_eqb}
use Rattle.model.specs.Lists.{elem, each}
use Rattle.model.specs.Record.{Reason, Copy, stale_fork}
use Rattle.model.specs.Writes.{Change, promote, orphan, changed, Write, after_all, touched}
use Rattle.model.proofs.Tools.{by_bool, or_left, or_right}
use Rattle.writing.specs.Meant.{code_copy}

pub eqb_swap : (x y : ℕ) → eqb x y ≡ eqb y x
eqb_swap x y = by_bool (eqb x y) (λ e. e ∙ sym (eq-eqb y x (sym (eqb-true x y e)))) (λ e. e ∙ sym (ne_eqb y x (λ z. eqb-false x y e (sym z))))

module _ (c : ℕ → Change) (q : ℕ) where
  pub touched-each : (l : List ℕ) → touched (each (λ p. record { place = p; change = c p }) l) q ≡ elem q l
  unfolding touched each elem
  touched-each [] = refl
  touched-each (x ∷ l) = rw (touched-each l, eqb_swap x q)

  pub after_each : ((k : Copy) → changed (c q) (changed (c q) k) ≡ changed (c q) k) → (l : List ℕ) (k : Copy) → after_all (each (λ p. record { place = p; change = c p }) l) q k ≡ cond (elem q l) (changed (c q) k) k
  unfolding after_all each elem
  after_each t [] k = refl
  after_each t (x ∷ l) k = after_each t l (cond (eqb x q) (changed (c x) k) k) ∙ by_bool (eqb x q) (λ i. let z : x ≡ q = eqb-true x q i in rw (i, eq-eqb q x (sym z), z) (by_bool (elem q l) (λ m. rw m (t k)) (λ m. rw m))) (λ i. rw (i, ne_eqb q x (λ z. eqb-false x q i (sym z))))

pub untouched : (ws : List Write) (q : ℕ) (k : Copy) → touched ws q ≡ false → after_all ws q k ≡ k
unfolding touched after_all
untouched [] q k e = refl
untouched (w ∷ ws) q k e = rw (or_left (eqb w.place q) (touched ws q) e) (untouched ws q k (or_right (eqb w.place q) (touched ws q) e))

pub promote_twice : (k : Copy) → changed promote (changed promote k) ≡ changed promote k
unfolding changed
promote_twice k = refl

-- whatever stood, an orphan sets all five
pub orphan_over : (t : ℤ) (r : Reason) (x : Option ℕ) (j k : Copy) → changed (orphan t r x) j ≡ changed (orphan t r x) k
unfolding changed
orphan_over t r x j k = refl

-- ---- what the codes mean ----

module _ (clock : ℤ) (reason : Reason) (hash : ℕ → ℕ) (k : Copy) where
  pub code_promoted : code_copy clock reason hash 1 k ≡ changed promote k
  unfolding code_copy
  code_promoted = refl

  pub code_stale : code_copy clock reason hash 4 k ≡ changed (orphan clock stale_fork none) k
  unfolding code_copy
  code_stale = refl

  pub code_again : code_copy clock reason hash 5 k ≡ changed promote (changed (orphan clock stale_fork none) k)
  unfolding code_copy
  code_again = refl

  pub code_alone : code_copy clock reason hash 6 k ≡ changed (orphan clock reason none) k
  unfolding code_copy
  code_alone = refl

  pub code_rival : (x : ℕ) → code_copy clock reason hash (7 + x) k ≡ changed (orphan clock reason (some (hash x))) k
  unfolding code_copy
  code_rival x =
      let z : 7 + x - 7 ≡ x = omega arith in
      rw (ne_eqb (7 + x) 1 (omega arith), ne_eqb (7 + x) 2 (omega arith), ne_eqb (7 + x) 3 (omega arith), ne_eqb (7 + x) 4 (omega arith), ne_eqb (7 + x) 5 (omega arith), ne_eqb (7 + x) 6 (omega arith), z)
