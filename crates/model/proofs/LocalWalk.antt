-- Where the canonical count is local index + 1, the canonical blocks are the local walk; so an ancestor is on it, and work above it is the difference of two linked works.
use Prim.Native.Nat.{ℕ, suc, ◌-◌, ◌<◌}
use mathlib.Core.Path.{◌≡◌, refl, sym, ◌∙◌, ap}
use mathlib.Core.Bool.{Bool, true, false, not, ◌&&◌}
use mathlib.Core.Option.{some}
use mathlib.Core.List.{List, [], ◌∷◌, ◌++◌, reverse}
use native.Mathlib.Omega.{arith}
use lib.Dec.{eqb, ltb}
use borrow.Author.Tests.{lt-ltb, le-ltb}
use Rattle.model.specs.Lists.{elem, only, front, last, total}
use Rattle.model.specs.Standing.{winner, canonical, is_linked, parent, work_of, outranks, best, canonical_count}
use Rattle.model.specs.Comparing.{known}
use Rattle.model.specs.Walks.{Asked, index, hash, is_canon, covers_at, meets_at, actual_at, walk_of, onward, above}
use Rattle.model.specs.Select.{on}
use Rattle.model.specs.Adopt.{ancestor, extension, safe_front, our_side, ours}
use Rattle.model.proofs.Tools.{by_bool, by_option, pick_some}
use Rattle.model.proofs.ListLaws.{elem_nil, elem_head, elem_cases, elem-find, front-find, count-elem, count_same}
use Rattle.model.proofs.WalkLaws.{Upheld, parent_index, walk_is, upward, walk_index, walk_room, walk_once, walk-length, linked_along, linked_canonical, front_work}

-- ---- above a block of the walk ----

pub only_none : (f : ℕ → Bool) (l : List ℕ) → ((x : ℕ) → elem x l ≡ true → f x ≡ false) → only f l ≡ []
unfolding only elem
only_none f [] k = refl
only_none f (x ∷ l) k = rw (k x (elem_head x l)) (only_none f l (λ y e. k y (by_bool (eqb y x) (λ m. rw m) (λ m. rw m e))))

-- the walk to p is what is above f, and f's walk
pub above_is : (a : Asked) (f p : ℕ) → elem f (walk_of a p) ≡ true → walk_of a p ≡ above a f p ++ walk_of a f
unfolding above only
above_is a f = upward a.holdings (λ p. elem f (walk_of a p) ≡ true → walk_of a p ≡ above a f p ++ walk_of a f) (λ p ih e. elem_cases f p (onward (walk_of a) (parent a.holdings p)) (rw (walk_is a.holdings p) at e) (top p) (λ m. by_option (parent a.holdings p) (λ n. elem_nil f (rw n at m)) (λ q n. lower p q n (rw n at m) (ih q n (rw n at m)))))
  where
    up : ℕ → Bool
    up q = ltb (index a f) (index a q)

    top : (p : ℕ) → f ≡ p → walk_of a p ≡ only up (walk_of a p) ++ walk_of a f
    top p z = rw (only_none up (walk_of a p) (λ x m. le-ltb (index a f) (index a x) (rw z (walk_index a.holdings p x m)))) (ap (walk_of a) (sym z))

    lower : (p q : ℕ) → parent a.holdings p ≡ some q → elem f (walk_of a q) ≡ true → walk_of a q ≡ only up (walk_of a q) ++ walk_of a f → walk_of a p ≡ only up (walk_of a p) ++ walk_of a f
    lower p q n m ih =
        let t : up p ≡ true = lt-ltb (index a f) (index a p) (omega (arith, walk_index a.holdings q f m, parent_index a.holdings p q n)) in
        let w : walk_of a p ≡ p ∷ walk_of a q = rw n at (walk_is a.holdings p) in
        rw (w, t) (ap (λ (l : List ℕ). p ∷ l) ih)

-- ---- the canonical blocks are the local walk ----

module _ (a : Asked) (upheld : Upheld a.holdings canonical (a.values canonical)) (local : ℕ) (is_best : best a.holdings (a.values canonical) ≡ some local) where
  best_linked : (is_linked (a.values canonical local) ≡ true) × (local < a.holdings.room)
  best_linked = pick_some (λ p. is_linked (a.values canonical p)) (outranks a.holdings (a.values canonical)) a.holdings.room local is_best

  pub spine_linked : (p : ℕ) → on a local p ≡ true → is_linked (a.values canonical p) ≡ true
  spine_linked p e = linked_along a.holdings canonical (a.values canonical) upheld local p best_linked.0 e

  pub spine_canonical : (p : ℕ) → on a local p ≡ true → is_canon a p ≡ true
  spine_canonical p e = linked_canonical a.holdings (a.values canonical) upheld p (spine_linked p e)

  pub spine_room : (p : ℕ) → on a local p ≡ true → p < a.holdings.room
  spine_room p e = walk_room a.holdings local p best_linked.1 e

  module _ (full : canonical_count a.holdings ≡ suc (index a local)) where
    -- as many canonical blocks as the walk is long, which are all canonical
    pub canonical_spine : (p : ℕ) → p < a.holdings.room → is_canon a p ≡ true → on a local p ≡ true
    canonical_spine = count_same (is_canon a) (λ p. elem p (walk_of a local)) a.holdings.room (λ p i e. spine_canonical p e)
        (count-elem (walk_of a local) a.holdings.room (walk_once a.holdings local) spine_room ∙ walk-length a.holdings canonical (a.values canonical) upheld local best_linked.0 ∙ sym full)

    -- so where Select asks for the count, no canonical block is off the local walk anyway
    pub none_off : (p : ℕ) → p < a.holdings.room → (is_canon a p && not (on a local p)) ≡ false
    none_off p i = by_bool (is_canon a p) (λ c. let o : on a local p ≡ true = canonical_spine p i c in rw (c, o)) (λ c. rw c)

    -- an ancestor is on the local walk, and its canonical linked value exists
    pub ancestor-on : (leaf f : ℕ) → leaf < a.holdings.room → ancestor a leaf ≡ some f → (on a local f ≡ true) × (is_linked (a.values canonical f) ≡ true)
    ancestor-on leaf f i e =
        let k : (is_canon a f ≡ true) × (elem f (walk_of a leaf) ≡ true) = elem-find (is_canon a) f (walk_of a leaf) e in
        let o : on a local f ≡ true = canonical_spine f (walk_room a.holdings leaf f i k.1) k.0 in
        (o, spine_linked f o)

    -- our work above it is the difference of two canonical linked works
    pub our_work : (leaf f p : ℕ) (l : List ℕ) → leaf < a.holdings.room → ancestor a leaf ≡ some f → front (meets_at a) (reverse (above a f local)) ≡ p ∷ l
        → ours a local f ≡ record { work = known (work_of (a.values canonical (last p l)) - work_of (a.values canonical f)); index = index a (last p l); hash = hash a (last p l) }
    unfolding our_side
    our_work leaf f p l i e c =
        let w : walk_of a local ≡ above a f local ++ (f ∷ onward (walk_of a) (parent a.holdings f)) = above_is a f local (ancestor-on leaf f i e).0 ∙ ap (λ (r : List ℕ). above a f local ++ r) (walk_is a.holdings f) in
        let t : total (actual_at a) (p ∷ l) ≡ work_of (a.values canonical (last p l)) - work_of (a.values canonical f) = front_work a.holdings canonical (a.values canonical) upheld local f (above a f local) (onward (walk_of a) (parent a.holdings f)) (meets_at a) p l best_linked.0 w c in
        rw (c, t)

-- ---- the peer's work is the difference of two linked works ----

pub front_all : (l : List ℕ) → front (λ p. true) l ≡ l
unfolding front
front_all [] = refl
front_all (x ∷ l) = ap (λ (r : List ℕ). x ∷ r) (front_all l)

pub peer_work_lem : (a : Asked) → Upheld a.holdings winner (a.values winner) → (local leaf f p : ℕ) (l : List ℕ) → is_linked (a.values winner leaf) ≡ true → ancestor a leaf ≡ some f → safe_front a local (extension a leaf) ≡ p ∷ l
    → total (actual_at a) (p ∷ l) ≡ work_of (a.values winner (last p l)) - work_of (a.values winner f)
peer_work_lem a upheld local leaf f p l lk e c = by_bool (covers_at a local) (λ i. by (covers_at a) (rw i at c)) (λ i. by (λ p. true) (front_all (extension a leaf) ∙ rw i at c))
  where
    passed : List ℕ
    passed = front (λ p. not (is_canon a p)) (walk_of a leaf)

    by : (g : ℕ → Bool) → front g (reverse passed) ≡ p ∷ l → total (actual_at a) (p ∷ l) ≡ work_of (a.values winner (last p l)) - work_of (a.values winner f)
    by g c = let k : (r : List ℕ) × (walk_of a leaf ≡ passed ++ (f ∷ r)) = front-find (is_canon a) f (walk_of a leaf) e in front_work a.holdings winner (a.values winner) upheld leaf f passed k.0 g p l lk k.1 c
