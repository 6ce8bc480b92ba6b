-- Laws of lists: each number once with one more at the end, the last touches of a table, and rows of bytes put one after another.
use mathlib.Core.Path.{◌≡◌, refl, sym, ap, ◌∙◌}
use mathlib.Core.Bool.{true, false}
use mathlib.Core.List.{List, [], ◌∷◌, ◌++◌, append-nil, append_assoc, reverse, reverse-append}
use Prim.Native.Nat.{ℕ, zero, suc, ◌*◌, ◌<◌}
use native.Mathlib.Omega.{arith}
use lib.ListN.{length, length-append}
use lib.Seq.{sets}
use lib.Dec.{eqb}
use borrow.Author.Tests.{eqb-true, eqb-false, eq-eqb, ne_eqb}
use Rattle.amount.specs.Choose.{◌if◌else◌}
use Rattle.model.specs.Lists.{elem, without, distinct}
use Rattle.model.proofs.Tools.{by_bool}
use Rattle.model.proofs.ListLaws.{elem_cases, elem_nil}
use Rattle.hash.specs.Digits.{bytes_of}
use Rattle.hash.proofs.HashLaws.{sets_append, bytes_long}
use Rattle.journal.specs.Journal.{tab}
use Rattle.journal.specs.Changes.{lasts, bytes_of_all}
use Rattle.journal.proofs.TabLaws.{tab_snoc}

-- ---- each number once ----

without_append : (x : ℕ) (k l : List ℕ) → without x (k ++ l) ≡ without x k ++ without x l
unfolding without
without_append x [] l = refl
without_append x (y ∷ k) l = by_bool (eqb x y) (λ e. rw e (without_append x k l)) (λ e. rw e (ap {B = List ℕ} (λ r. y ∷ r) (without_append x k l)))

pub distinct_snoc : (x : ℕ) (l : List ℕ) → distinct (l ++ (x ∷ [])) ≡ (distinct l if elem x l else distinct l ++ (x ∷ []))
unfolding distinct without elem
distinct_snoc x [] = refl
distinct_snoc x (y ∷ l) =
    rw (distinct_snoc x l)
    (by_bool (elem x l)
    (λ e. by_bool (eqb x y) (λ z. rw (e, z)) (λ z. rw (e, z)))
    (λ e. by_bool (eqb x y)
    (λ z. rw (e, z, without_append y (distinct l) (x ∷ []), eq-eqb y x (sym (eqb-true x y z)), append-nil))
    (λ z. rw (e, z, without_append y (distinct l) (x ∷ []), ne_eqb y x (λ p. eqb-false x y z (sym p))))))

-- ---- the last touches of a table ----

pub lasts_none : (f : ℕ → ℕ) → lasts f 0 ≡ []
unfolding lasts
lasts_none f = refl

pub lasts_old : (f : ℕ → ℕ) (k : ℕ) → elem (f k) (tab f k) ≡ true → lasts f (suc k) ≡ lasts f k
unfolding lasts
lasts_old f k e = rw e

pub lasts_new : (f : ℕ → ℕ) (k : ℕ) → elem (f k) (tab f k) ≡ false → lasts f (suc k) ≡ f k ∷ lasts f k
unfolding lasts
lasts_new f k e = rw e

nothing : (f : ℕ → ℕ) → reverse (distinct (tab f 0)) ≡ []
unfolding tab distinct
nothing f = refl

-- they are the distinct numbers, in the order of their last touch
pub lasts-distinct : (f : ℕ → ℕ) (k : ℕ) → reverse (distinct (tab f k)) ≡ lasts f k
lasts-distinct f zero = nothing f ∙ sym (lasts_none f)
lasts-distinct f (suc k) =
    ap (λ (z : List ℕ). reverse (distinct z)) (tab_snoc f k) ∙ ap reverse (distinct_snoc (f k) (tab f k)) ∙
    by_bool (elem (f k) (tab f k))
    (λ e. rw (e, lasts_old f k e) (lasts-distinct f k))
    (λ e. rw (e, lasts_new f k e) (reverse-append (distinct (tab f k)) (f k ∷ []) ∙ ap {B = List ℕ} (λ r. f k ∷ r) (lasts-distinct f k)))

-- a member is that of an entry that none later equals
abbrev pub LastOf : (ℕ → ℕ) → ℕ → ℕ → Type 0
LastOf f x k = (i : ℕ) × (i < k) × (elem (f i) (tab f i) ≡ false) × (f i ≡ x)

pub lasts-elem : (f : ℕ → ℕ) (x k : ℕ) → elem x (lasts f k) ≡ true → LastOf f x k
lasts-elem f x zero e = elem_nil x (rw lasts_none at e)
lasts-elem f x (suc k) e =
    by_bool (elem (f k) (tab f k))
    (λ t. more (lasts-elem f x k (rw (lasts_old f k t) at e)))
    (λ t. elem_cases x (f k) (lasts f k) (rw (lasts_new f k t) at e) (λ z. (k, omega arith, t, sym z)) (λ h. more (lasts-elem f x k h)))
  where
    more : LastOf f x k → LastOf f x (suc k)
    more r = (r.0, let h = r.1 in omega arith, r.2, r.3)

pub elem-lasts : (f : ℕ → ℕ) (i k : ℕ) → i < k → elem (f i) (tab f i) ≡ false → elem (f i) (lasts f k) ≡ true
unfolding elem
elem-lasts f i zero h t = absurd (omega arith)
elem-lasts f i (suc k) h t = by_bool (eqb i k) here (λ e. there (elem-lasts f i k (let ne : i ≡ k → ⊥ = eqb-false i k e in omega arith) t))
  where
    here : eqb i k ≡ true → elem (f i) (lasts f (suc k)) ≡ true
    here e = let z : i ≡ k = eqb-true i k e in rw (z, lasts_new f k (rw z at t), eq-eqb (f k) (f k) refl)

    there : elem (f i) (lasts f k) ≡ true → elem (f i) (lasts f (suc k)) ≡ true
    there ih =
        by_bool (elem (f k) (tab f k))
        (λ u. rw (lasts_old f k u) ih)
        (λ u. rw (lasts_new f k u) (by_bool (eqb (f i) (f k)) (λ v. rw v) (λ v. rw v ih)))

-- ---- bytes ----

pub bytes_snoc : (l : List ℕ) (x : ℕ) → bytes_of_all (l ++ (x ∷ [])) ≡ bytes_of_all l ++ bytes_of x
unfolding bytes_of_all
bytes_snoc [] x = append-nil (bytes_of x)
bytes_snoc (y ∷ l) x = rw (bytes_snoc l x, append_assoc)

pub bytes_all_long : (l : List ℕ) → length (bytes_of_all l) ≡ 32 * length l
unfolding bytes_of_all
bytes_all_long [] = refl
bytes_all_long (y ∷ l) = length-append (bytes_of y) (bytes_of_all l) ∙ omega (arith, bytes_long y, bytes_all_long l)

-- one more hash after those that stand there
pub put_more : (list l : List ℕ) (x : ℕ) → sets (sets list 0 (bytes_of_all l)) (32 * length l) (bytes_of x) ≡ sets list 0 (bytes_of_all (l ++ (x ∷ [])))
put_more list l x = sym (ap (sets list 0) (bytes_snoc l x) ∙ sets_append (bytes_of_all l) (bytes_of x) list 0 ∙ ap (λ (z : ℕ). sets (sets list 0 (bytes_of_all l)) z (bytes_of x)) (omega (arith, bytes_all_long l)))
