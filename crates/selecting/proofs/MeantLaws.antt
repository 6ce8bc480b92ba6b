-- What codes mean where a plan makes one kind of change at each place of a list, and three such kinds one after another: a later change to a block shows alone, as each sets
-- what the other sets.
use mathlib.Core.Path.{◌≡◌, refl, sym, ap, ◌∙◌}
use mathlib.Core.Bool.{Bool, true, false, cond, not, ◌||◌}
use mathlib.Core.List.{List, [], ◌∷◌, ◌++◌}
use Prim.Native.Nat.{ℕ}
use lib.Dec.{eqb}
use lib.IntN.{ℤ}
use borrow.Author.Tests.{eqb-true, eqb-false, eq-eqb, ne_eqb}
use Rattle.amount.specs.Choose.{◌if◌else◌}
use Rattle.model.specs.Holding.{Holdings, hash_of}
use Rattle.model.specs.Lists.{elem, each}
use Rattle.model.specs.Record.{Reason, Copy, off_spine, competing_fork}
use Rattle.model.specs.Writes.{Change, promote, demote, changed, Write, ◌at◌, after_all, touched, copy_of}
use Rattle.model.proofs.Tools.{by_bool}
use Rattle.model.proofs.PlanCode.{after_append, touched_append}
use Rattle.writing.specs.Meant.{code_copy, Meant}

-- ---- one kind of change at each place of a list ----

pub touched-each : (c : Change) (l : List ℕ) (p : ℕ) → touched (each (λ q. c at q) l) p ≡ elem p l
unfolding touched each elem
touched-each c [] p = refl
touched-each c (x ∷ l) p = by_bool (eqb x p) (λ e. rw (e, eq-eqb p x (sym (eqb-true x p e)))) (λ e. rw (e, ne_eqb p x (λ z. eqb-false x p e (sym z))) (touched-each c l p))

-- twice is once
abbrev pub Again : Change → Type 0
Again c = (k : Copy) → changed c (changed c k) ≡ changed c k

pub after_each : (c : Change) → Again c → (l : List ℕ) (p : ℕ) (k : Copy) → after_all (each (λ q. c at q) l) p k ≡ cond (elem p l) (changed c k) k
unfolding after_all each elem
after_each c again [] p k = refl
after_each c again (x ∷ l) p k =
    after_each c again l p (cond (eqb x p) (changed c k) k)
    ∙ by_bool (eqb x p) (λ e. rw (e, eq-eqb p x (sym (eqb-true x p e))) (by_bool (elem p l) (λ i. rw i (again k)) (λ i. rw i))) (λ e. rw (e, ne_eqb p x (λ z. eqb-false x p e (sym z))))

pub promote_again : Again promote
unfolding changed
promote_again k = refl

pub demote_again : (r : Reason) → Again (demote r)
unfolding changed
demote_again r k = refl

-- ---- what the codes mean ----

module _ (h : Holdings) (clock : ℤ) (reason : Reason) where
  pub meant_none : Meant h clock reason [] (λ q. 0)
  unfolding touched
  meant_none = record { written = λ q i. refl; copies = λ q i x. absurd (x refl) }

  abbrev offs : List ℕ → List Write
  offs l = each (λ p. demote off_spine at p) l

  abbrev ups : List ℕ → List Write
  ups l = each (λ p. promote at p) l

  abbrev rivals : List ℕ → List Write
  rivals l = each (λ p. demote competing_fork at p) l

  abbrev copied : ℕ → Copy → Copy
  copied c k = code_copy clock reason (λ p. hash_of (h.cells p)) c k

  -- ---- demotions alone ----

  abbrev one : Bool → ℕ
  one d = 2 if d else 0

  one_written : (d : Bool) → d ≡ not (eqb (one d) 0)
  one_written true = refl
  one_written false = refl

  one_copy : (d : Bool) (k : Copy) → (one d ≡ 0 → ⊥) → copied (one d) k ≡ cond d (changed (demote off_spine) k) k
  unfolding code_copy
  one_copy true k x = refl
  one_copy false k x = absurd (x refl)

  pub meant_demoted : (l : List ℕ) → Meant h clock reason (offs l) (λ q. one (elem q l))
  meant_demoted l = record {
    written = λ q i. touched-each (demote off_spine) l q ∙ one_written (elem q l);
    copies = λ q i x. one_copy (elem q l) (copy_of (h.cells q)) x ∙ sym (after_each (demote off_spine) (demote_again off_spine) l q (copy_of (h.cells q)));
  }

  -- ---- demotions, promotions, demotions ----

  abbrev three : Bool → Bool → Bool → ℕ
  three d p c = 3 if c else 1 if p else 2 if d else 0

  three_written : (d p c : Bool) → ((d || p) || c) ≡ not (eqb (three d p c) 0)
  three_written true true true = refl
  three_written true true false = refl
  three_written true false true = refl
  three_written true false false = refl
  three_written false true true = refl
  three_written false true false = refl
  three_written false false true = refl
  three_written false false false = refl

  abbrev copies : Bool → Bool → Bool → Copy → Copy
  copies d p c k =
      let first = cond d (changed (demote off_spine) k) k in
      let second = cond p (changed promote first) first in
      cond c (changed (demote competing_fork) second) second

  three_copy : (d p c : Bool) (k : Copy) → (three d p c ≡ 0 → ⊥) → copied (three d p c) k ≡ copies d p c k
  unfolding code_copy changed
  three_copy true true true k x = refl
  three_copy true true false k x = refl
  three_copy true false true k x = refl
  three_copy true false false k x = refl
  three_copy false true true k x = refl
  three_copy false true false k x = refl
  three_copy false false true k x = refl
  three_copy false false false k x = absurd (x refl)

  module _ (d p c : List ℕ) where
    abbrev all_of : List Write
    all_of = offs d ++ ups p ++ rivals c

    touched_three : (q : ℕ) → touched all_of q ≡ ((elem q d || elem q p) || elem q c)
    touched_three q =
        touched_append (offs d ++ ups p) (rivals c) q
        ∙ rw (touched_append (offs d) (ups p) q, touched-each (demote off_spine) d q, touched-each promote p q, touched-each (demote competing_fork) c q)

    after_three : (q : ℕ) (k : Copy) → after_all all_of q k ≡ copies (elem q d) (elem q p) (elem q c) k
    after_three q k =
        after_append (offs d ++ ups p) (rivals c) q k
        ∙ after_each (demote competing_fork) (demote_again competing_fork) c q (after_all (offs d ++ ups p) q k)
        ∙ ap (λ (k : Copy). cond (elem q c) (changed (demote competing_fork) k) k)
        (after_append (offs d) (ups p) q k
        ∙ after_each promote promote_again p q (after_all (offs d) q k)
        ∙ ap (λ (k : Copy). cond (elem q p) (changed promote k) k) (after_each (demote off_spine) (demote_again off_spine) d q k))

    pub meant_three : Meant h clock reason all_of (λ q. three (elem q d) (elem q p) (elem q c))
    meant_three = record {
      written = λ q i. touched_three q ∙ three_written (elem q d) (elem q p) (elem q c);
      copies = λ q i x. three_copy (elem q d) (elem q p) (elem q c) (copy_of (h.cells q)) x ∙ sym (after_three q (copy_of (h.cells q)));
    }
