-- The plans gone through once: what holds of every kind of change that they make, at the places where they make it, holds of every change of a plan.
use Prim.Native.Nat.{ℕ, suc, ◌<◌}
use mathlib.Core.Path.{◌≡◌}
use mathlib.Core.Bool.{Bool, true, false, cond, not, ◌&&◌}
use mathlib.Core.Option.{Option, none, some}
use mathlib.Core.List.{List, [], ◌∷◌, ◌++◌}
use lib.Dec.{eqb, ltb}
use borrow.Author.Tests.{eq-eqb}
use Rattle.model.specs.Lists.{elem, those, only, each, is_empty, put_in, sorted}
use Rattle.model.specs.Record.{Reason, off_spine, competing_fork, stale_fork}
use Rattle.model.specs.Standing.{winner, canonical, best, outranks, is_leaf, canonical_count}
use Rattle.model.specs.Comparing.{Comparison, choose_verified, is_adopted}
use Rattle.model.specs.Walks.{Asked, index, is_canon, covers_at, walk_of, fork, above, under}
use Rattle.model.specs.Writes.{Change, promote, demote, orphan, Write, Plan, scan, apply, copy_after}
use Rattle.model.specs.Select.{on, off, aside, demotions, held_back, goes_on, promotions, competitors, select_at, select_from, select}
use Rattle.model.specs.Adopt.{leaves_of, extension, ancestor, safe_front, ours, peers, Verdict, pass_on, refused, accepted, floor_refuses, is_stale, refusal, rival, acceptance, decided, judge_safe, judge_above, judge, then, search_leaves, adopt_from, adopt}
use Rattle.model.proofs.Tools.{by_bool, by_option}
use Rattle.model.proofs.ListLaws.{elem_head, elem_cases, elem_append, elem-only, elem-those, elem-front}

-- ---- every change of a list, of a plan, of a verdict ----

unfoldable pub Every : (ℕ → Change → Type 0) → List Write → Type 0
Every Q [] = Unit {0}
Every Q (w ∷ l) = Q w.place w.change × Every Q l

unfoldable pub Says : (ℕ → Change → Type 0) → Plan → Type 0
Says Q scan = Unit {0}
Says Q (apply n ws) = Every Q ws

unfoldable Judges : (ℕ → Change → Type 0) → Verdict → Type 0
Judges Q pass_on = Unit {0}
Judges Q (refused ws) = Every Q ws
Judges Q (accepted n ws) = Every Q ws

-- what is above a block on a walk is on the walk
pub in_walk : (a : Asked) (f p x : ℕ) → elem x (above a f p) ≡ true → elem x (walk_of a p) ≡ true
unfolding above
in_walk a f p x e = (elem-only (λ q. ltb (index a f) (index a q)) x (walk_of a p) e).1

pub elem_put : {P : Type 0} (less : ℕ → ℕ → Bool) (x y : ℕ) (l : List ℕ) → elem y (put_in less x l) ≡ true → (y ≡ x → P) → (elem y l ≡ true → P) → P
unfolding put_in elem
elem_put less x y [] e f g = elem_cases y x [] e f g
elem_put {P} less x y (z ∷ l) e f g = go (less x z) e (λ e f g. elem_put less x y l e f g)
  where
    go : (b : Bool) → elem y (cond b (x ∷ z ∷ l) (z ∷ put_in less x l)) ≡ true → (elem y (put_in less x l) ≡ true → (y ≡ x → P) → (elem y l ≡ true → P) → P) → P
    go true e ih = elem_cases y x (z ∷ l) e f g
    go false e ih = elem_cases y z (put_in less x l) e (λ m. g (rw (eq-eqb y z m))) (λ m. ih m f (λ k. g (by_bool (eqb y z) (λ m. rw m) (λ m. rw m k))))

pub elem-sorted : (less : ℕ → ℕ → Bool) (y : ℕ) (l : List ℕ) → elem y (sorted less l) ≡ true → elem y l ≡ true
unfolding sorted elem
elem-sorted less y [] e = e
elem-sorted less y (x ∷ l) e = elem_put less x y (sorted less l) e (λ m. rw (eq-eqb y x m)) (λ m. by_bool (eqb y x) (λ i. rw i) (λ i. rw i (elem-sorted less y l m)))

module _ (Q : ℕ → Change → Type 0) where
  every_append : (k l : List Write) → Every Q k → Every Q l → Every Q (k ++ l)
  unfolding Every
  every_append [] l e f = f
  every_append (w ∷ k) l e f = (e.0, every_append k l e.1 f)

  every_each : (c : ℕ → Change) (l : List ℕ) → ((p : ℕ) → elem p l ≡ true → Q p (c p)) → Every Q (each (λ p. record { place = p; change = c p }) l)
  unfolding Every each elem
  every_each c [] k = tt
  every_each c (x ∷ l) k = (k x (elem_head x l), every_each c l (λ p e. k p (by_bool (eqb p x) (λ m. rw m) (λ m. rw m e))))

  -- ---- Select ----

  module _ (a : Asked)
      (off_spine_lem : (local p : ℕ) → best a.holdings (a.values canonical) ≡ some local → elem p (off a local) ≡ true → not (under a.floor (index a p)) ≡ true → Q p (demote off_spine))
      (of_best : (top p : ℕ) → best a.holdings (a.values winner) ≡ some top → elem p (walk_of a top) ≡ true → Q p promote)
      (of_local : (top local f p : ℕ) → best a.holdings (a.values canonical) ≡ some local → held_back a top local f ≡ false → elem p (above a f local) ≡ true → Q p (demote competing_fork))
      (of_aside : (top local f p : ℕ) → best a.holdings (a.values canonical) ≡ some local → held_back a top local f ≡ false → elem p (aside a local) ≡ true → not (on a top p) ≡ true → Q p (demote competing_fork)) where
    demotions_every : (local : ℕ) → best a.holdings (a.values canonical) ≡ some local → Every Q (demotions a local)
    demotions_every local b = every_each (λ p. demote off_spine) (only (λ p. not (under a.floor (index a p))) (off a local)) (λ p e. let k : (not (under a.floor (index a p)) ≡ true) × (elem p (off a local) ≡ true) = elem-only (λ p. not (under a.floor (index a p))) p (off a local) e in off_spine_lem local p b k.1 k.0)

    select_at_lem : (top local : ℕ) → best a.holdings (a.values winner) ≡ some top → best a.holdings (a.values canonical) ≡ some local → (f : Option ℕ) → Says Q (select_at a top local f)
    unfolding select_at Says
    select_at_lem top local t b none = tt
    select_at_lem top local t b (some f) = by_bool (held_back a top local f) (λ i. rw i (demotions_every local b)) (λ i. by_bool (goes_on a top local f) (λ j. rw (i, j) (switched i)) (λ j. rw (i, j) (demotions_every local b)))
      where
        switched : held_back a top local f ≡ false → Every Q (demotions a local ++ promotions a top local f ++ competitors a top local f)
        switched i = every_append (demotions a local ++ promotions a top local f) (competitors a top local f)
            (every_append (demotions a local) (promotions a top local f) (demotions_every local b)
            (every_each (λ p. promote) (only (λ p. not (copy_after a.holdings (demotions a local) p).canonical) (above a f top)) (λ p e. of_best top p t (in_walk a f top p (elem-only (λ p. not (copy_after a.holdings (demotions a local) p).canonical) p (above a f top) e).1))))
            (every_each (λ p. demote competing_fork) (above a f local ++ only (λ p. not (on a top p)) (aside a local)) (λ p e. elem_append p (above a f local) (only (λ p. not (on a top p)) (aside a local)) e (λ m. of_local top local f p b i m) (λ m. let k : (not (on a top p) ≡ true) × (elem p (aside a local) ≡ true) = elem-only (λ p. not (on a top p)) p (aside a local) m in of_aside top local f p b i k.1 k.0)))

    pub select_every : Says Q (select a)
    unfolding select select_from Says
    select_every = by_option (best a.holdings (a.values winner)) (λ t. rw t tt) (λ top t. by_option (best a.holdings (a.values canonical)) (λ b. rw (t, b) tt) (λ local b. rw (t, b) (by_bool (eqb top local && is_empty (aside a local)) (λ i. rw i (demotions_every local b)) (λ i. rw i (select_at_lem top local t b (fork a top local))))))

  -- ---- Adopt ----

  module _ (a : Asked)
      (of_stale : (leaf p : ℕ) → is_leaf a.holdings (a.values winner) leaf ≡ true → leaf < a.holdings.room → elem p (extension a leaf) ≡ true → Q p (orphan a.clock stale_fork none))
      (of_safe : (leaf p : ℕ) → is_leaf a.holdings (a.values winner) leaf ≡ true → leaf < a.holdings.room → elem p (extension a leaf) ≡ true → Q p promote)
      (of_ours : (local f p : ℕ) (r : Reason) (x : Option ℕ) → best a.holdings (a.values canonical) ≡ some local → floor_refuses a local f ≡ false → elem p (above a f local) ≡ true → Q p (orphan a.clock r x)) where
    module _ (local : ℕ) (b : best a.holdings (a.values canonical) ≡ some local) where
      judge_every : (leaf : ℕ) → is_leaf a.holdings (a.values winner) leaf ≡ true → leaf < a.holdings.room → Judges Q (judge a local leaf)
      unfolding judge judge_above judge_safe decided refusal acceptance Judges Every
      judge_every leaf lf i = by_bool (is_canon a leaf) (λ c. rw c tt) (λ c. rw c (by_option (ancestor a leaf) (λ n. rw n tt) (λ f n. rw n (safely f (safe_front a local (extension a leaf)) (λ p e. inside p e)))))
        where
          inside : (p : ℕ) → elem p (safe_front a local (extension a leaf)) ≡ true → elem p (extension a leaf) ≡ true
          inside p e = by_bool (covers_at a local) (λ c. (elem-front (covers_at a) p (extension a leaf) (rw c at e)).1) (λ c. rw c at e)

          refuses : (bottom : ℕ) → Judges Q (refusal a local (extension a leaf) bottom)
          refuses bottom = by_bool (is_stale a.per_epoch (index a bottom) (index a local)) (λ s. rw s (every_each (λ p. orphan a.clock stale_fork none) (extension a leaf) (λ p e. of_stale leaf p lf i e))) (λ s. rw s tt)

          accepts : (f : ℕ) (safe : List ℕ) (c : Comparison) → floor_refuses a local f ≡ false → ((p : ℕ) → elem p safe ≡ true → elem p (extension a leaf) ≡ true) → Judges Q (acceptance a local f safe c)
          accepts f safe c r k = every_append (each (λ q. record { place = q; change = orphan a.clock c.reason (rival a safe q) }) (above a f local)) (each (λ p. record { place = p; change = promote }) safe) (every_each (λ q. orphan a.clock c.reason (rival a safe q)) (above a f local) (λ q e. of_ours local f q c.reason (rival a safe q) b r e)) (every_each (λ p. promote) safe (λ p e. of_safe leaf p lf i (k p e)))

          safely : (f : ℕ) (safe : List ℕ) → ((p : ℕ) → elem p safe ≡ true → elem p (extension a leaf) ≡ true) → Judges Q (judge_safe a local f (extension a leaf) safe)
          safely f [] k = tt
          safely f (p ∷ l) k = by_bool (floor_refuses a local f) (λ r. rw r (refuses p)) (λ r. rw r (by_bool (is_adopted (choose_verified (ours a local f) (peers a p l)).outcome) (λ d. rw d (accepts f (p ∷ l) (choose_verified (ours a local f) (peers a p l)) r k)) (λ d. rw d (refuses p))))

      search_every : (l : List ℕ) → ((x : ℕ) → elem x l ≡ true → (is_leaf a.holdings (a.values winner) x ≡ true) × (x < a.holdings.room)) → Says Q (search_leaves a local l)
      unfolding search_leaves Says Every Judges elem
      search_every [] k = tt
      search_every (leaf ∷ l) k = go (judge a local leaf) (let m = k leaf (elem_head leaf l) in judge_every leaf m.0 m.1) (search_leaves a local l) (search_every l (λ x e. k x (by_bool (eqb x leaf) (λ m. rw m) (λ m. rw m e))))
        where
          go : (v : Verdict) → Judges Q v → (rest : Plan) → Says Q rest → Says Q (then v rest)
          go pass_on j rest s = s
          go (refused ws) j scan s = tt
          go (refused ws) j (apply n l) s = every_append ws l j s
          go (accepted n ws) j rest s = j

    pub adopt_every : Says Q (adopt a)
    unfolding adopt adopt_from Says leaves_of
    adopt_every = by_option (best a.holdings (a.values canonical)) (λ b. rw b tt) (λ local b. rw b (by_bool (eqb (canonical_count a.holdings) (suc (index a local))) (λ i. rw i (search_every local b (leaves_of a) (λ x e. elem-those (is_leaf a.holdings (a.values winner)) x a.holdings.room (elem-sorted (outranks a.holdings (a.values winner)) x (those (is_leaf a.holdings (a.values winner)) a.holdings.room) e)))) (λ i. rw i tt)))
