-- The model's lists of places as tests of one place; and codes looked for in the memory tell whether such a list is empty.
use mathlib.Core.Path.{◌≡◌, refl, sym, ap, ◌∙◌}
use mathlib.Core.Bool.{Bool, true, false, not, ◌&&◌}
use mathlib.Core.List.{List, [], ◌∷◌}
use mathlib.Core.Option.{Option}
use Prim.Native.Nat.{ℕ, suc, ◌+◌, ◌<◌}
use native.Mathlib.Omega.{arith}
use lib.Dec.{eqb}
use Rattle.amount.specs.Choose.{◌if◌else◌}
use Rattle.memory.specs.Words.{word}
use Rattle.memory.specs.Layout.{row}
use Rattle.model.specs.Places.{first, is_some}
use Rattle.model.specs.Lists.{elem, only, any, each, is_empty}
use Rattle.model.specs.Standing.{canonical_count}
use Rattle.model.specs.Walks.{Asked, index, is_canon, under}
use Rattle.model.specs.Writes.{Write}
use Rattle.model.specs.Select.{on, off, aside, some?}
use Rattle.model.proofs.Tools.{by_bool, by_option, no_both, first_some, first_exists}
use Rattle.model.proofs.ListLaws.{elem_nil, elem_none, elem_head, elem-only, elem-those}
use Rattle.model.proofs.Switched.{only_is}
use Rattle.writing.specs.Coded.{Coded}
use Rattle.selecting.specs.Selected.{marked, strayed, demoted_of, strays_of, counted, IsDemoted, IsAside, IsStray}

-- ---- lists that may be empty ----

empty_none : (x : ℕ) (l : List ℕ) → is_empty l ≡ true → elem x l ≡ false
empty_none x [] e = elem_none x
empty_none x (y ∷ l) e = no_both false e refl

some_each : (f : ℕ → Write) (l : List ℕ) → some? (each f l) ≡ counted (not (is_empty l))
unfolding each
some_each f [] = refl
some_each f (x ∷ l) = refl

any-only : (f : ℕ → Bool) (l : List ℕ) → any f l ≡ not (is_empty (only f l))
unfolding any only
any-only f [] = refl
any-only f (x ∷ l) = by_bool (f x) (λ e. rw e) (λ e. rw e (any-only f l))

-- a test that the members pass, and no others below n, finds one exactly if there is one
first_member : (t : ℕ → Bool) (n : ℕ) (l : List ℕ) → ((q : ℕ) → elem q l ≡ true → q < n) → ((q : ℕ) → q < n → elem q l ≡ t q) → is_some (first t n) ≡ not (is_empty l)
first_member t n [] low same = by_option (first t n) (λ e. rw e) (λ q e. let g = first_some t n q e in no_both (t q) g.0 (sym (same q g.1) ∙ elem_none q))
first_member t n (x ∷ l) low same =
    let i = low x (elem_head x l) in
    let g = first_exists t n x (sym (same x i) ∙ elem_head x l) i in
    ap (λ (o : Option ℕ). is_some o) g.1

-- ---- one place: off the local walk O, at or below the floor U, on best's walk T ----

abbrev pub mark_of : Bool → Bool → ℕ
mark_of U O = (8 if U else 2) if O else 0

abbrev pub stray_of : Bool → Bool → Bool → ℕ
stray_of T U O = ((0 if T else 8) if U else 2) if O else 0

mark_two : (U O : Bool) → (not U && O) ≡ eqb (mark_of U O) 2
mark_two true true = refl
mark_two true false = refl
mark_two false true = refl
mark_two false false = refl

mark_eight : (U O : Bool) → (U && O) ≡ eqb (mark_of U O) 8
mark_eight true true = refl
mark_eight true false = refl
mark_eight false true = refl
mark_eight false false = refl

stray_eight : (T U O : Bool) → (not T && (U && O)) ≡ eqb (stray_of T U O) 8
stray_eight true true true = refl
stray_eight true true false = refl
stray_eight true false true = refl
stray_eight true false false = refl
stray_eight false true true = refl
stray_eight false true false = refl
stray_eight false false true = refl
stray_eight false false false = refl

-- a stray, a demoted one, or neither
pub stray_is : (T U O : Bool) → stray_of T U O ≡ (8 if not T && (U && O) else 2 if not U && O else 0)
stray_is true true true = refl
stray_is true true false = refl
stray_is true false true = refl
stray_is true false false = refl
stray_is false true true = refl
stray_is false true false = refl
stray_is false false true = refl
stray_is false false false = refl

none_stray : (T U O : Bool) → (U && O) ≡ false → mark_of U O ≡ stray_of T U O
none_stray T true true e = no_both true refl e
none_stray T true false e = refl
none_stray T false true e = refl
none_stray T false false e = refl

module _ (a : Asked) (n local : ℕ) (room : a.holdings.room ≡ n) (off_is : (q : ℕ) → q < n → elem q (off a local) ≡ (is_canon a q && not (on a local q))) where
  abbrev U : ℕ → Bool
  U q = under a.floor (index a q)

  abbrev O : ℕ → Bool
  O q = is_canon a q && not (on a local q)

  off_low : (q : ℕ) → elem q (off a local) ≡ true → q < n
  unfolding off
  off_low q e =
      by_bool (eqb (canonical_count a.holdings) (suc (index a local)))
      (λ i. elem_nil q (rw i at e))
      (λ i. let k = elem-those (λ p. is_canon a p && not (on a local p)) q a.holdings.room (rw i at e) in omega (arith, k.1, room))

  pub demoted_is : (q : ℕ) → q < n → elem q (demoted_of a local) ≡ (not (U q) && O q)
  demoted_is q h = only_is (λ p. not (under a.floor (index a p))) q (off a local) ∙ ap (λ (b : Bool). not (U q) && b) (off_is q h)

  pub aside_is : (q : ℕ) → q < n → elem q (aside a local) ≡ (U q && O q)
  aside_is q h = only_is (λ p. under a.floor (index a p)) q (off a local) ∙ ap (λ (b : Bool). U q && b) (off_is q h)

  pub strays_is : (top q : ℕ) → q < n → elem q (strays_of a top local) ≡ (not (on a top q) && (U q && O q))
  strays_is top q h = only_is (λ p. not (on a top p)) q (aside a local) ∙ ap (λ (b : Bool). not (on a top q) && b) (aside_is q h)

  aside_low : (q : ℕ) → elem q (aside a local) ≡ true → q < n
  aside_low q e = off_low q (elem-only (λ p. under a.floor (index a p)) q (off a local) e).1

  -- ---- the codes, looked for ----

  module _ (m : List ℕ) (f : ℕ → ℕ) (k : Coded m n f) where
    found : (c : ℕ) (l : List ℕ) → ((q : ℕ) → elem q l ≡ true → q < n) → ((q : ℕ) → q < n → elem q l ≡ eqb (f q) c) → is_some (first (λ q. eqb (word m (row q + 59)) c) n) ≡ not (is_empty l)
    found c l low same = first_member (λ q. eqb (word m (row q + 59)) c) n l low (λ q h. same q h ∙ ap (λ (x : ℕ). eqb x c) (sym (k.codes q h)))

  module _ (m : List ℕ) (k : Coded m n (marked a local)) where
    pub found_demoted : (r : Bool) → r ≡ is_some (first (λ q. eqb (word m (row q + 59)) 2) n) → IsDemoted a local r
    unfolding marked
    found_demoted r e =
        let z : r ≡ not (is_empty (demoted_of a local)) = e ∙ found m (marked a local) k 2 (demoted_of a local) (λ q i. off_low q (elem-only (λ p. not (under a.floor (index a p))) q (off a local) i).1) (λ q h. demoted_is q h ∙ mark_two (U q) (O q)) in
        some_each _ (demoted_of a local) ∙ ap counted (sym z)

    pub found_aside : (r : Bool) → r ≡ is_some (first (λ q. eqb (word m (row q + 59)) 8) n) → IsAside a local r
    unfolding marked
    found_aside r e =
        let z : r ≡ not (is_empty (aside a local)) = e ∙ found m (marked a local) k 8 (aside a local) aside_low (λ q h. aside_is q h ∙ mark_eight (U q) (O q)) in
        sym (not_twice (is_empty (aside a local))) ∙ ap not (sym z)
      where
        not_twice : (b : Bool) → not (not b) ≡ b
        not_twice true = refl
        not_twice false = refl

  pub found_stray : (m : List ℕ) (top : ℕ) → Coded m n (strayed a top local) → (r : Bool) → r ≡ is_some (first (λ q. eqb (word m (row q + 59)) 8) n) → IsStray a top local r
  unfolding strayed
  found_stray m top k r e =
      any-only (λ p. not (on a top p)) (aside a local)
      ∙ sym (e ∙ found m (strayed a top local) k 8 (strays_of a top local) (λ q i. aside_low q (elem-only (λ p. not (on a top p)) q (aside a local) i).1) (λ q h. strays_is top q h ∙ stray_eight (on a top q) (U q) (O q)))

  -- ---- none are aside; none of those are off best's walk ----

  pub none_strays : (top : ℕ) → IsAside a local false → IsStray a top local false
  unfolding any
  none_strays top e = go (aside a local) e
    where
      go : (l : List ℕ) → is_empty l ≡ true → any (λ p. not (on a top p)) l ≡ false
      go [] i = refl
      go (x ∷ l) i = no_both false i refl

  pub none_aside : (top q : ℕ) → q < n → IsAside a local false → marked a local q ≡ strayed a top local q
  unfolding marked strayed
  none_aside top q h e = none_stray (on a top q) (U q) (O q) (sym (aside_is q h) ∙ empty_none q (aside a local) e)

  pub no_stray : (top q : ℕ) → q < n → IsStray a top local false → (not (on a top q) && (U q && O q)) ≡ false
  no_stray top q h e = sym (strays_is top q h) ∙ empty_none q (strays_of a top local) (not_none (is_empty (strays_of a top local)) (sym (any-only (λ p. not (on a top p)) (aside a local)) ∙ e))
    where
      not_none : (b : Bool) → not b ≡ false → b ≡ true
      not_none true z = refl
      not_none false z = sym z
