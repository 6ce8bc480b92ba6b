-- For code that goes another way: two blocks of one walk with one index are one, the fork is the highest common block, changes kept by place build up, and a rising list is told by its members.
use Prim.Native.Nat.{ℕ, ◌≤◌, ◌<◌}
use mathlib.Core.Path.{◌≡◌, refl, sym, ◌∙◌, ap}
use mathlib.Core.Bool.{Bool, true, false, cond, not, ◌||◌}
use mathlib.Core.Option.{Option, none, some}
use mathlib.Core.List.{List, [], ◌∷◌, ◌++◌}
use native.Mathlib.Omega.{arith}
use lib.Dec.{eqb, ltb}
use borrow.Author.Tests.{eqb-true, eqb-false, ne_eqb, ltb-false, le-ltb}
use Rattle.model.specs.Lists.{elem, only, front, find}
use Rattle.model.specs.Record.{Copy}
use Rattle.model.specs.Holding.{Holdings, index_of}
use Rattle.model.specs.Standing.{parent}
use Rattle.model.specs.Walks.{Asked, index, onward, walk, walk_of, fork, above}
use Rattle.model.specs.Writes.{changed, Write, after_all, touched}
use Rattle.model.specs.Select.{on}
use Rattle.model.proofs.Tools.{by_bool, by_option, no_both, no_none, not_is_true}
use Rattle.model.proofs.ListLaws.{elem_nil, elem_head, elem_cases, elem_append, elem-front, elem-find, front-find}
use Rattle.model.proofs.WalkLaws.{parent_index, walk_is, upward, walk_top, walk_index, walk_part}
use Rattle.model.proofs.LocalWalk.{only_none}
use Rattle.model.proofs.Entries.{Rising}

-- ---- one block for each index of a walk: on the walk or not is told at the block's index ----

pub walk_one : (h : Holdings) (p x y : ℕ) → elem x (walk h p) ≡ true → elem y (walk h p) ≡ true → index_of (h.cells x) ≡ index_of (h.cells y) → x ≡ y
walk_one h = upward h (λ p. (x y : ℕ) → elem x (walk h p) ≡ true → elem y (walk h p) ≡ true → index_of (h.cells x) ≡ index_of (h.cells y) → x ≡ y) step
  where
    rest : (p x : ℕ) → elem x (onward (walk h) (parent h p)) ≡ true → (q : ℕ) × (parent h p ≡ some q) × (elem x (walk h q) ≡ true)
    rest p x e = by_option (parent h p) (λ n. elem_nil x (rw n at e)) (λ q n. (q, n, rw n at e))

    lower : (p x : ℕ) → elem x (onward (walk h) (parent h p)) ≡ true → index_of (h.cells x) < index_of (h.cells p)
    lower p x e = let k = rest p x e in omega (arith, walk_index h k.0 x k.2, parent_index h p k.0 k.1)

    step : (p : ℕ) → ((q : ℕ) → parent h p ≡ some q → (x y : ℕ) → elem x (walk h q) ≡ true → elem y (walk h q) ≡ true → index_of (h.cells x) ≡ index_of (h.cells y) → x ≡ y) → (x y : ℕ) → elem x (walk h p) ≡ true → elem y (walk h p) ≡ true → index_of (h.cells x) ≡ index_of (h.cells y) → x ≡ y
    step p ih x y e f i = elem_cases x p (onward (walk h) (parent h p)) (rw (walk_is h p) at e)
        (λ a. elem_cases y p (onward (walk h) (parent h p)) (rw (walk_is h p) at f) (λ b. a ∙ sym b) (λ b. absurd (omega (arith, lower p y b, ap (λ (z : ℕ). index_of (h.cells z)) a))))
        (λ a. elem_cases y p (onward (walk h) (parent h p)) (rw (walk_is h p) at f) (λ b. absurd (omega (arith, lower p x a, ap (λ (z : ℕ). index_of (h.cells z)) b))) (λ b. let k = rest p x a in ih k.0 k.1 x y k.2 (let z = k.1 in rw z at b) i))

-- ---- the fork ----

pub fork-on : (a : Asked) (p q f : ℕ) → fork a p q ≡ some f → (on a q f ≡ true) × (on a p f ≡ true)
fork-on a p q f e = elem-find (on a q) f (walk_of a p) e

pub fork_highest : (a : Asked) (p q f x : ℕ) → fork a p q ≡ some f → on a p x ≡ true → on a q x ≡ true → index a x ≤ index a f
fork_highest a p q f x e m n =
    let k : (r : List ℕ) × (walk_of a p ≡ front (λ r. not (on a q r)) (walk_of a p) ++ (f ∷ r)) = front-find (on a q) f (walk_of a p) e in
    elem_append x (front (λ r. not (on a q r)) (walk_of a p)) (f ∷ k.0) (rw k.1 at m) (λ i. no_both (on a q x) n (not_is_true (on a q x) (elem-front (λ r. not (on a q r)) x (walk_of a p) i).0)) (λ i. walk_index a.holdings f x (rw (walk_part a.holdings p (front (λ r. not (on a q r)) (walk_of a p)) f k.0 k.1) at i))

find_none : (f : ℕ → Bool) (x : ℕ) (l : List ℕ) → find f l ≡ none → elem x l ≡ true → f x ≡ false
unfolding find
find_none f x [] e m = elem_nil x m
find_none f x (y ∷ l) e m = by_bool (f y) (λ i. no_none (some y) (rw i at e) refl) (λ i. elem_cases x y l m (λ z. rw z i) (λ n. find_none f x l (rw i at e) n))

pub fork-none : (a : Asked) (p q x : ℕ) → fork a p q ≡ none → on a p x ≡ true → on a q x ≡ false
fork-none a p q x e m = find_none (on a q) x (walk_of a p) e m

-- a common block that no common one is above is the fork
pub fork_only : (a : Asked) (p q f : ℕ) → on a p f ≡ true → on a q f ≡ true → ((x : ℕ) → on a p x ≡ true → on a q x ≡ true → index a x ≤ index a f) → fork a p q ≡ some f
fork_only a p q f m n k = by_option (fork a p q) (λ e. no_both (on a q f) n (fork-none a p q f e m)) (λ g e. let o = fork-on a p q g e in e ∙ ap {B = Option ℕ} some (walk_one a.holdings p g f o.1 m (omega (arith, fork_highest a p q g f e m n, k g o.1 o.0))))

-- ---- changes kept by place ----

pub after_append : (k l : List Write) (p : ℕ) (c : Copy) → after_all (k ++ l) p c ≡ after_all l p (after_all k p c)
unfolding after_all
after_append [] l p c = refl
after_append (w ∷ k) l p c = after_append k l p (cond (eqb w.place p) (changed w.change c) c)

pub touched_append : (k l : List Write) (p : ℕ) → touched (k ++ l) p ≡ (touched k p || touched l p)
unfolding touched
touched_append [] l p = refl
touched_append (w ∷ k) l p = by_bool (eqb w.place p) (λ e. rw e) (λ e. rw e (touched_append k l p))

-- ---- a rising list is told by its members: whoever sorts, gets the entries' order ----

module _ (less : ℕ → ℕ → Bool) (self : (p : ℕ) → less p p ≡ false) (trans : (p q r : ℕ) → less p q ≡ true → less q r ≡ true → less p r ≡ true) where
  pub rising_only : (k l : List ℕ) → Rising less k → Rising less l → ((x : ℕ) → elem x k ≡ elem x l) → k ≡ l
  unfolding Rising elem
  rising_only [] [] r s m = refl
  rising_only [] (y ∷ l) r s m = elem_nil y (m y ∙ elem_head y l)
  rising_only (x ∷ k) [] r s m = elem_nil x (sym (m x) ∙ elem_head x k)
  rising_only (x ∷ k) (y ∷ l) r s m = same heads (rising_only k l r.1 s.1 (tail heads))
    where
      -- each head is in the other list; were they two, each would go before the other
      heads : x ≡ y
      heads = elem_cases x y l (sym (m x) ∙ elem_head x k) (λ z. z) (λ i. elem_cases y x k (m y ∙ elem_head y l) (λ z. sym z) (λ j. no_both (less x x) (trans x y x (r.0 y j) (s.0 x i)) (self x)))

      tail : x ≡ y → (w : ℕ) → elem w k ≡ elem w l
      tail z w = by_bool (eqb w x) here (λ i. let j : eqb w y ≡ false = rw z at i in rw (i, j) at (m w))
        where
          here : eqb w x ≡ true → elem w k ≡ elem w l
          here i =
              let u : w ≡ x = eqb-true w x i in
              let a : elem w k ≡ false = by_bool (elem w k) (λ e. no_both (less x x) (r.0 x (rw u at e)) (self x)) (λ e. e) in
              let b : elem w l ≡ false = by_bool (elem w l) (λ e. no_both (less y y) (s.0 y (rw (u ∙ z) at e)) (self y)) (λ e. e) in
              a ∙ sym b

      same : x ≡ y → k ≡ l → x ∷ k ≡ y ∷ l
      same z t = cc

-- ---- the steps of a loop that goes down ----

abbrev pub step_to : {A : Type 0} → A → (ℕ → A) → Option ℕ → A
step_to stop f none = stop
step_to stop f (some p) = f p

-- the first block down the walk that passes (Adopt's ancestor), and the blocks before it
pub find_step : (h : Holdings) (f : ℕ → Bool) (p : ℕ) → find f (walk h p) ≡ cond (f p) (some p) (step_to none (λ q. find f (walk h q)) (parent h p))
unfolding find
find_step h f p = rw (walk_is h p) (by_option (parent h p) (λ n. rw n) (λ q n. rw n))

pub front_step : (h : Holdings) (f : ℕ → Bool) (p : ℕ) → front f (walk h p) ≡ cond (f p) (p ∷ step_to [] (λ q. front f (walk h q)) (parent h p)) []
unfolding front
front_step h f p = rw (walk_is h p) (by_option (parent h p) (λ n. rw n) (λ q n. rw n))

-- what is above f: nothing from the first block on that is not
pub above_step : (a : Asked) (f p : ℕ) → above a f p ≡ cond (ltb (index a f) (index a p)) (p ∷ step_to [] (λ q. above a f q) (parent a.holdings p)) []
unfolding above only
above_step a f p = by_bool (ltb (index a f) (index a p)) (λ i. rw i (higher i)) (λ i. rw i (only_none (λ q. ltb (index a f) (index a q)) (walk_of a p) (λ x m. le-ltb (index a f) (index a x) (let j = walk_index a.holdings p x m in omega (arith, ltb-false (index a f) (index a p) i)))))
  where
    higher : ltb (index a f) (index a p) ≡ true → only (λ q. ltb (index a f) (index a q)) (walk_of a p) ≡ p ∷ step_to [] (λ q. only (λ r. ltb (index a f) (index a r)) (walk_of a q)) (parent a.holdings p)
    higher i = rw (walk_is a.holdings p, i) (by_option (parent a.holdings p) (λ n. rw n) (λ q n. rw n))

-- on a walk: the top, or on the parent's
pub on_step : (a : Asked) (p x : ℕ) → on a p x ≡ (eqb x p || step_to false (λ q. on a q x) (parent a.holdings p))
unfolding elem
on_step a p x = rw (walk_is a.holdings p) (by_option (parent a.holdings p) (λ n. rw n) (λ q n. rw n))

-- the fork: step down on the side that is higher, on both where they are level and differ
find_same : (f g : ℕ → Bool) (l : List ℕ) → ((x : ℕ) → elem x l ≡ true → f x ≡ g x) → find f l ≡ find g l
unfolding find elem
find_same f g [] k = refl
find_same f g (x ∷ l) k = rw (k x (elem_head x l), find_same f g l (λ y e. k y (by_bool (eqb y x) (λ m. rw m) (λ m. rw m e))))

pub fork_here : (a : Asked) (p : ℕ) → fork a p p ≡ some p
fork_here a p = find_step a.holdings (on a p) p ∙ rw (walk_top a.holdings p)

-- p is not on q's walk
pub fork_left : (a : Asked) (p q : ℕ) → on a q p ≡ false → fork a p q ≡ step_to none (λ r. fork a r q) (parent a.holdings p)
fork_left a p q n = find_step a.holdings (on a q) p ∙ rw n

-- q is above all of p's walk
pub fork_right : (a : Asked) (p q : ℕ) → index a p < index a q → fork a p q ≡ step_to none (λ r. fork a p r) (parent a.holdings q)
fork_right a p q i = by_option (parent a.holdings q) (λ n. rw n (nowhere n)) (λ r n. rw n (find_same (on a q) (on a r) (walk_of a p) (λ x m. on_step a q x ∙ rw (n, other x m))))
  where
    other : (x : ℕ) → elem x (walk_of a p) ≡ true → eqb x q ≡ false
    other x m = ne_eqb x q (λ z. let j : index a x ≡ index a q = ap (index a) z in omega (arith, walk_index a.holdings p x m))

    nowhere : parent a.holdings q ≡ none → fork a p q ≡ none
    nowhere n = by_option (fork a p q) (λ e. e) (λ f e. let k = fork-on a p q f e in no_both (on a q f) k.0 (on_step a q f ∙ rw (n, other f k.1)))

-- level and not the same: neither is on the other's walk
pub level : (a : Asked) (p q : ℕ) → index a p ≡ index a q → eqb p q ≡ false → on a q p ≡ false
level a p q i n = by_bool (on a q p) (λ e. absurd (eqb-false p q n (walk_one a.holdings q p q e (walk_top a.holdings q) i))) (λ e. e)
