-- An extension with a safe front, in the model: the safe front is what lies above the ancestor on the walk of its top, its blocks are not canonical while our walk's are,
-- and the safe block of equal index is the one at that level.
use mathlib.Core.Path.{◌≡◌, refl, sym, ap, ◌∙◌}
use mathlib.Core.Bool.{Bool, true, false, not, ◌||◌}
use mathlib.Core.List.{List, [], ◌∷◌, ◌++◌, reverse}
use mathlib.Core.Option.{Option, none, some}
use Prim.Native.Nat.{ℕ, suc, ◌+◌, ◌<◌}
use native.Mathlib.Omega.{arith}
use lib.Dec.{eqb, ltb}
use borrow.Author.Tests.{eqb-true, ltb-true}
use Rattle.model.specs.Lists.{elem, front, find, last}
use Rattle.model.specs.Standing.{canonical, best, canonical_count}
use Rattle.model.specs.Walks.{Asked, index, is_canon, covers_at, walk_of, above}
use Rattle.model.specs.Adopt.{ancestor, extension, safe_front}
use Rattle.model.proofs.Tools.{by_bool, by_option, no_both, no_none, not_is_true, elem-reverse}
use Rattle.model.proofs.ListLaws.{elem_nil, elem_cases, elem_append, elem-only, elem-front, elem-find, elem_rev, front-find}
use Rattle.model.proofs.WalkLaws.{Upheld, walk_top, walk_index, walk_part, front-walk}
use Rattle.model.proofs.LocalWalk.{above_is, spine_canonical, ancestor-on, front_all}
use Rattle.model.proofs.PlanLaws.{in_walk}
use Rattle.model.proofs.Switched.{append_is}
use Rattle.pending.proofs.PendLaws.{or_true}
use Rattle.extending.specs.Accepting.{level_of, rival_code}
use Rattle.extending.proofs.LevelLaws.{level_at, level_on}

find_none : (f : ℕ → Bool) (x : ℕ) (l : List ℕ) → find f l ≡ none → elem x l ≡ true → f x ≡ false
unfolding find
find_none f x [] e m = elem_nil x m
find_none f x (y ∷ l) e m = by_bool (f y) (λ i. no_none (some y) (rw i at e) refl) (λ i. elem_cases x y l m (λ z. rw z i) (λ n. find_none f x l (rw i at e) n))

-- two tests that tell each other
both_ways : (s t : Bool) → (s ≡ true → t ≡ true) → (t ≡ true → s ≡ true) → s ≡ t
both_ways true true f g = refl
both_ways true false f g = no_both false (f refl) refl
both_ways false true f g = no_both false (g refl) refl
both_ways false false f g = refl

-- 7 + the place of the block found, 6 where none is
abbrev pub code_of : Option ℕ → ℕ
code_of none = 6
code_of (some x) = 7 + x

pub ext_off : (a : Asked) (leaf q : ℕ) → elem q (extension a leaf) ≡ true → is_canon a q ≡ false
ext_off a leaf q e = not_is_true (is_canon a q) (elem-front (λ p. not (is_canon a p)) q (walk_of a leaf) (elem_rev q (front (λ p. not (is_canon a p)) (walk_of a leaf)) e)).0

pub ext_walk : (a : Asked) (leaf q : ℕ) → elem q (extension a leaf) ≡ true → elem q (walk_of a leaf) ≡ true
ext_walk a leaf q e = (elem-front (λ p. not (is_canon a p)) q (walk_of a leaf) (elem_rev q (front (λ p. not (is_canon a p)) (walk_of a leaf)) e)).1

module _ (a : Asked) (local leaf p : ℕ) (l : List ℕ) (safe : safe_front a local (extension a leaf) ≡ p ∷ l) where
  pub safe_part : (q : ℕ) → elem q (p ∷ l) ≡ true → elem q (extension a leaf) ≡ true
  safe_part q e = inside (rw (← safe) at e)
    where
      inside : elem q (safe_front a local (extension a leaf)) ≡ true → elem q (extension a leaf) ≡ true
      inside e = by_bool (covers_at a local) (λ c. (elem-front (covers_at a) q (extension a leaf) (rw c at e)).1) (λ c. rw c at e)

  module _ (f : ℕ) (anc : ancestor a leaf ≡ some f) where
    abbrev passed : List ℕ
    passed = front (λ p. not (is_canon a p)) (walk_of a leaf)

    pub tip_walk : (walk_of a (last p l) ≡ reverse (p ∷ l) ++ walk_of a f) × (elem (last p l) (walk_of a leaf) ≡ true)
    tip_walk = by_bool (covers_at a local) (λ i. by (covers_at a) (rw i at safe)) (λ i. by (λ p. true) (front_all (extension a leaf) ∙ rw i at safe))
      where
        by : (g : ℕ → Bool) → front g (reverse passed) ≡ p ∷ l → (walk_of a (last p l) ≡ reverse (p ∷ l) ++ walk_of a f) × (elem (last p l) (walk_of a leaf) ≡ true)
        by g c =
            let k : (r : List ℕ) × (walk_of a leaf ≡ passed ++ (f ∷ r)) = front-find (is_canon a) f (walk_of a leaf) anc in
            let t = front-walk a.holdings leaf f passed k.0 g p l k.1 c in
            (t.0 ∙ ap (λ (y : List ℕ). reverse (p ∷ l) ++ y) (walk_part a.holdings leaf passed f k.0 k.1), t.1)

    tip_members : (q : ℕ) → elem q (walk_of a (last p l)) ≡ (elem q (p ∷ l) || elem q (walk_of a f))
    tip_members q = ap (elem q) tip_walk.0 ∙ append_is q (reverse (p ∷ l)) (walk_of a f) ∙ ap (λ (b : Bool). b || elem q (walk_of a f)) (elem-reverse q (p ∷ l))

    pub safe_walk : (q : ℕ) → elem q (p ∷ l) ≡ true → elem q (walk_of a (last p l)) ≡ true
    safe_walk q e = tip_members q ∙ rw e

    f_below : elem f (walk_of a (last p l)) ≡ true
    f_below = tip_members f ∙ rw (walk_top a.holdings f) (or_true (elem f (p ∷ l)))

    module _ (upheld : Upheld a.holdings canonical (a.values canonical)) (is_best : best a.holdings (a.values canonical) ≡ some local) (full : canonical_count a.holdings ≡ suc (index a local)) (room : leaf < a.holdings.room) where
      pub ours_canonical : (q : ℕ) → elem q (above a f local) ≡ true → is_canon a q ≡ true
      ours_canonical q e = spine_canonical a upheld local is_best q (in_walk a f local q e)

      under_canonical : (q : ℕ) → elem q (walk_of a f) ≡ true → is_canon a q ≡ true
      under_canonical q e = spine_canonical a upheld local is_best q (ap (elem q) (above_is a f local (ancestor-on a upheld local is_best full leaf f room anc).0) ∙ append_is q (above a f local) (walk_of a f) ∙ rw e (or_true (elem q (above a f local))))

      pub safe_is : (q : ℕ) → elem q (p ∷ l) ≡ elem q (above a f (last p l))
      unfolding above
      safe_is q = both_ways (elem q (p ∷ l)) (elem q (above a f (last p l)))
          (λ e. elem_append q (above a f (last p l)) (walk_of a f) (rw (above_is a f (last p l) f_below) at (safe_walk q e)) (λ m. m) (λ m. no_both (is_canon a q) (under_canonical q m) (ext_off a leaf q (safe_part q e))))
          (λ e. let k : (ltb (index a f) (index a q) ≡ true) × (elem q (walk_of a (last p l)) ≡ true) = elem-only (λ x. ltb (index a f) (index a x)) q (walk_of a (last p l)) e in
          elem_append q (reverse (p ∷ l)) (walk_of a f) (rw tip_walk.0 at k.1) (λ m. elem_rev q (p ∷ l) m) (λ m. absurd (omega (arith, ltb-true (index a f) (index a q) k.0, walk_index a.holdings f q m))))

      -- a safe block is none of ours
      pub safe_apart : (q : ℕ) → elem q (p ∷ l) ≡ true → elem q (above a f local) ≡ false
      safe_apart q e = by_bool (elem q (above a f local)) (λ m. no_both (is_canon a q) (ours_canonical q m) (ext_off a leaf q (safe_part q e))) (λ m. m)

      -- the competing block of one above the ancestor
      pub rival_is : (q : ℕ) → index a f < index a q → rival_code a.holdings (index a q) (level_of a.holdings (index a q) (last p l)) ≡ code_of (find (λ x. eqb (index a x) (index a q)) (p ∷ l))
      unfolding above
      rival_is q i = by_option (find (λ x. eqb (index a x) (index a q)) (p ∷ l)) nobody somebody
        where
          nobody : find (λ x. eqb (index a x) (index a q)) (p ∷ l) ≡ none → rival_code a.holdings (index a q) (level_of a.holdings (index a q) (last p l)) ≡ code_of (find (λ x. eqb (index a x) (index a q)) (p ∷ l))
          nobody e = rw e (by_option (level_of a.holdings (index a q) (last p l)) (λ n. rw n) (λ x n. let z : eqb (index a x) (index a q) ≡ false = other x n in rw (n, z)))
            where
              other : (x : ℕ) → level_of a.holdings (index a q) (last p l) ≡ some x → eqb (index a x) (index a q) ≡ false
              other x n = by_bool (eqb (index a x) (index a q)) (λ s. find_none (λ x. eqb (index a x) (index a q)) x (p ∷ l) e (safe_is x ∙ higher x n (eqb-true (index a x) (index a q) s))) (λ s. s)
                where
                  higher : (x : ℕ) → level_of a.holdings (index a q) (last p l) ≡ some x → index a x ≡ index a q → elem x (above a f (last p l)) ≡ true
                  higher x n z = elem_append x (above a f (last p l)) (walk_of a f) (rw (above_is a f (last p l) f_below) at (level_on a.holdings (index a q) (last p l) x n)) (λ m. m) (λ m. absurd (omega (arith, walk_index a.holdings f x m)))

          somebody : (x : ℕ) → find (λ x. eqb (index a x) (index a q)) (p ∷ l) ≡ some x → rival_code a.holdings (index a q) (level_of a.holdings (index a q) (last p l)) ≡ code_of (find (λ x. eqb (index a x) (index a q)) (p ∷ l))
          somebody x e =
              let k : (eqb (index a x) (index a q) ≡ true) × (elem x (p ∷ l) ≡ true) = elem-find (λ x. eqb (index a x) (index a q)) x (p ∷ l) e in
              let z : index a x ≡ index a q = eqb-true (index a x) (index a q) k.0 in
              let t : level_of a.holdings (index a q) (last p l) ≡ some x = ap (λ (i : ℕ). level_of a.holdings i (last p l)) (sym z) ∙ level_at a.holdings x (last p l) (safe_walk x k.1) in
              rw (e, t, k.0)
