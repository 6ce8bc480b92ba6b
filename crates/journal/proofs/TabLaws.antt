-- Laws of `tab`: its length, its fronts, one more at either end, its members.
use mathlib.Core.Path.{◌≡◌, refl, sym, ap, ◌∙◌}
use mathlib.Core.Bool.{true, false}
use mathlib.Core.List.{List, [], ◌∷◌, ◌++◌}
use Prim.Native.Nat.{ℕ, zero, suc, ◌+◌, ◌≤◌, ◌<◌}
use native.Mathlib.Omega.{arith}
use lib.ListN.{length, take}
use lib.Seq.{take_all}
use lib.Dec.{eqb, ltb}
use borrow.Author.Tests.{eq-eqb, ltb-true, ltb-false}
use Rattle.amount.specs.Choose.{◌if◌else◌}
use Rattle.model.specs.Lists.{elem}
use Rattle.model.proofs.Tools.{by_bool}
use Rattle.journal.specs.Journal.{tab}

pub tab-length : (f : ℕ → ℕ) (k : ℕ) → length (tab f k) ≡ k
unfolding tab
tab-length f zero = refl
tab-length f (suc k) = ap suc (tab-length (λ i. f (suc i)) k)

pub tab_same : (g f : ℕ → ℕ) (k : ℕ) → ((i : ℕ) → i < k → g i ≡ f i) → tab g k ≡ tab f k
unfolding tab
tab_same g f zero h = refl
tab_same g f (suc k) h = rw (h 0 (omega arith), tab_same (λ i. g (suc i)) (λ i. f (suc i)) k (λ i l. h (suc i) (omega arith)))

pub take-tab : (f : ℕ → ℕ) (k l : ℕ) → k ≤ l → take k (tab f l) ≡ tab f k
unfolding tab
take-tab f zero l h = refl
take-tab f (suc k) zero h = absurd (omega arith)
take-tab f (suc k) (suc l) h = ap {B = List ℕ} (λ r. f 0 ∷ r) (take-tab (λ i. f (suc i)) k l (omega arith))

pub tab_cons : (g f : ℕ → ℕ) (x k : ℕ) → g 0 ≡ x → ((i : ℕ) → i < k → g (suc i) ≡ f i) → tab g (suc k) ≡ x ∷ tab f k
unfolding tab
tab_cons g f x k e h = rw (e, tab_same (λ i. g (suc i)) f k h)

pub tab_snoc : (f : ℕ → ℕ) (k : ℕ) → tab f (suc k) ≡ tab f k ++ (f k ∷ [])
unfolding tab
tab_snoc f zero = refl
tab_snoc f (suc k) = ap {B = List ℕ} (λ r. f 0 ∷ r) (tab_snoc (λ i. f (suc i)) k)

pub tab-elem : (f : ℕ → ℕ) (i k : ℕ) → i < k → elem (f i) (tab f k) ≡ true
unfolding tab elem
tab-elem f i zero h = absurd (omega arith)
tab-elem f zero (suc k) h = rw (eq-eqb (f 0) (f 0) refl)
tab-elem f (suc i) (suc k) h = by_bool (eqb (f (suc i)) (f 0)) (λ e. rw e) (λ e. rw e (tab-elem (λ z. f (suc z)) i k (omega arith)))

-- the newest of j entries are kept
pub ring_append : (g f : ℕ → ℕ) (x j k k' : ℕ) → 1 ≤ j → k ≤ j → g 0 ≡ x → ((i : ℕ) → suc i < j → g (suc i) ≡ f i) → k' ≡ (k + 1 if ltb k j else k)
    → tab g k' ≡ take j (x ∷ tab f k)
ring_append g f x zero k k' h l e s n = absurd (omega arith)
ring_append g f x (suc j) k k' h l e s n = by_bool (ltb k (suc j)) more full
  where
    more : ltb k (suc j) ≡ true → tab g k' ≡ take (suc j) (x ∷ tab f k)
    more t =
        let k<j : k < suc j = ltb-true k (suc j) t in
        let z : k' ≡ suc k = (rw t at n) ∙ omega arith in
        rw z (tab_cons g f x k e (λ i l. s i (omega arith)) ∙ sym (take_all (suc j) (x ∷ tab f k) (omega (arith, tab-length f k))))

    full : ltb k (suc j) ≡ false → tab g k' ≡ take (suc j) (x ∷ tab f k)
    full t =
        let j≤k : suc j ≤ k = ltb-false k (suc j) t in
        let z : k' ≡ suc j = (rw t at n) ∙ omega arith in
        rw z (tab_cons g f x j e (λ i l. s i (omega arith)) ∙ ap {B = List ℕ} (λ r. x ∷ r) (sym (take-tab f j k (omega arith))))
