-- After a select that switches, the canonical blocks are best's walk and no others.
use Prim.Native.Nat.{ℕ, suc, ◌<◌}
use mathlib.Core.Path.{◌≡◌, refl, sym, ◌∙◌, ap}
use mathlib.Core.Bool.{Bool, true, false, cond, not, ◌&&◌, ◌||◌}
use mathlib.Core.Option.{Option, none, some}
use mathlib.Core.List.{List, [], ◌∷◌, ◌++◌}
use native.Mathlib.Omega.{arith}
use lib.Dec.{eqb, ltb}
use borrow.Author.Tests.{eqb-true, eqb-false, eq-eqb, ne_eqb, ltb-true}
use Rattle.model.specs.Lists.{elem, those, only, each, is_empty}
use Rattle.model.specs.Record.{off_spine, competing_fork, Copy}
use Rattle.model.specs.Holding.{Cell, free, held, effective, copy_is_live, copy_is_canonical, is_live, is_canonical}
use Rattle.model.specs.Standing.{winner, canonical, best, canonical_count}
use Rattle.model.specs.Walks.{Asked, index, is_canon, walk_of, fork, above, under}
use Rattle.model.specs.Writes.{Change, promote, demote, changed, after_all, or_blank, copy_of, copy_after}
use Rattle.model.specs.Select.{on, off, aside, demotions, held_back, goes_on, promotions, competitors, switch, select_at, select_from, select}
use Rattle.model.proofs.Tools.{by_bool, no_both, and_left, and_right}
use Rattle.model.proofs.ListLaws.{elem-those, those-elem, elem_append}
use Rattle.model.proofs.WalkLaws.{Upheld}
use Rattle.model.proofs.LocalWalk.{above_is, spine_canonical, none_off}
use Rattle.model.proofs.PlanCode.{fork-on, fork_highest, after_append}

-- ---- members as tests ----

pub only_is : (f : ℕ → Bool) (x : ℕ) (l : List ℕ) → elem x (only f l) ≡ (f x && elem x l)
unfolding elem only
only_is f x [] = by_bool (f x) (λ e. rw e) (λ e. rw e)
only_is f x (y ∷ l) = by_bool (eqb x y) (λ i. let z : x ≡ y = eqb-true x y i in by_bool (f y) (λ e. rw (z, e, eq-eqb y y refl)) (λ e. rw (z, e) (only_is f y l ∙ rw e))) (λ i. by_bool (f y) (λ e. rw (e, i) (only_is f x l)) (λ e. rw (e, i) (only_is f x l)))

pub append_is : (x : ℕ) (k l : List ℕ) → elem x (k ++ l) ≡ (elem x k || elem x l)
unfolding elem
append_is x [] l = refl
append_is x (y ∷ k) l = by_bool (eqb x y) (λ e. rw e) (λ e. rw e (append_is x k l))

those_is : (f : ℕ → Bool) (x n : ℕ) → x < n → elem x (those f n) ≡ f x
those_is f x n i = by_bool (f x) (λ e. those-elem f x n e i ∙ sym e) (λ e. by_bool (elem x (those f n)) (λ m. no_both (f x) (elem-those f x n m).0 e) (λ m. m ∙ sym e))

-- ---- the canonical flag after one change at each place of a list ----

flag_each : (b : Bool) (c : Change) → ((k : Copy) → (changed c k).canonical ≡ b) → (l : List ℕ) (p : ℕ) (k : Copy) → (after_all (each (λ q. record { place = q; change = c }) l) p k).canonical ≡ cond (elem p l) b k.canonical
unfolding after_all each elem
flag_each b c h [] p k = refl
flag_each b c h (x ∷ l) p k = flag_each b c h l p (cond (eqb x p) (changed c k) k) ∙ by_bool (eqb x p) (λ i. rw (i, eq-eqb p x (sym (eqb-true x p i)), h k) (by_bool (elem p l) (λ m. rw m) (λ m. rw m))) (λ i. rw (i, ne_eqb p x (λ z. eqb-false x p i (sym z))))

promote_flag : (k : Copy) → (changed promote k).canonical ≡ true
unfolding changed
promote_flag k = refl

demote_flag : (r : _) (k : Copy) → (changed (demote r) k).canonical ≡ false
unfolding changed
demote_flag r k = refl

pub live_flag : (c : Cell) → is_live c ≡ true → (copy_of c).canonical ≡ is_canonical c
unfolding is_live is_canonical copy_of
live_flag free e = no_both false e refl
live_flag (held c) e = go (effective c) e
  where
    go : (o : Option Copy) → copy_is_live o ≡ true → (or_blank o).canonical ≡ copy_is_canonical o
    go none e = no_both false e refl
    go (some k) e = rw e

-- ---- the tests put together: on best's walk T, on the local walk L, at or below the floor U, canonical C, above the fork ----

table : (T L U C up : Bool) → (up && (T && L)) ≡ false → (up ≡ false → T ≡ L) → (L ≡ true → C ≡ true)
    → cond ((up && L) || (not T && (U && (C && not L)))) false (cond (not (cond (not U && (C && not L)) false C) && (up && T)) true (cond (not U && (C && not L)) false C)) ≡ T
table true true true true true once same canon = no_both true refl once
table true true true true false once same canon = refl
table true true true false true once same canon = no_both true refl once
table true true true false false once same canon = no_both false (canon refl) refl
table true true false true true once same canon = no_both true refl once
table true true false true false once same canon = refl
table true true false false true once same canon = no_both true refl once
table true true false false false once same canon = no_both false (canon refl) refl
table true false true true true once same canon = refl
table true false true true false once same canon = refl
table true false true false true once same canon = refl
table true false true false false once same canon = no_both false (sym (same refl)) refl
table true false false true true once same canon = refl
table true false false true false once same canon = no_both false (sym (same refl)) refl
table true false false false true once same canon = refl
table true false false false false once same canon = no_both false (sym (same refl)) refl
table false true true true true once same canon = refl
table false true true true false once same canon = no_both false (same refl) refl
table false true true false true once same canon = refl
table false true true false false once same canon = refl
table false true false true true once same canon = refl
table false true false true false once same canon = no_both false (same refl) refl
table false true false false true once same canon = refl
table false true false false false once same canon = refl
table false false true true true once same canon = refl
table false false true true false once same canon = refl
table false false true false true once same canon = refl
table false false true false false once same canon = refl
table false false false true true once same canon = refl
table false false false true false once same canon = refl
table false false false false true once same canon = refl
table false false false false false once same canon = refl

module _ (a : Asked) (upheld : Upheld a.holdings canonical (a.values canonical)) (local : ℕ) (is_best : best a.holdings (a.values canonical) ≡ some local) where
  pub off_is : (p : ℕ) → p < a.holdings.room → elem p (off a local) ≡ (is_canon a p && not (on a local p))
  unfolding off elem
  off_is p i = by_bool (eqb (canonical_count a.holdings) (suc (index a local))) (λ e. rw e (sym (none_off a upheld local is_best (eqb-true (canonical_count a.holdings) (suc (index a local)) e) p i))) (λ e. rw e (those_is (λ p. is_canon a p && not (on a local p)) p a.holdings.room i))

  module _ (top f : ℕ) (is_fork : fork a top local ≡ some f) (p : ℕ) (room : p < a.holdings.room) (live : is_live (a.holdings.cells p) ≡ true) where
    abbrev up : Bool
    up = ltb (index a f) (index a p)

    above-elem : (q : ℕ) → elem p (above a f q) ≡ (up && on a q p)
    unfolding above
    above-elem q = only_is (λ r. ltb (index a f) (index a r)) p (walk_of a q)

    by_now : (copy_after a.holdings (demotions a local) p).canonical ≡ cond (not (under a.floor (index a p)) && (is_canon a p && not (on a local p))) false (is_canon a p)
    by_now = flag_each false (demote off_spine) (demote_flag off_spine) (only (λ p. not (under a.floor (index a p))) (off a local)) p (copy_of (a.holdings.cells p)) ∙ (rw (only_is (λ p. not (under a.floor (index a p))) p (off a local), off_is p room, live_flag (a.holdings.cells p) live))

    -- on both walks and above the fork: not so
    once : (up && (on a top p && on a local p)) ≡ false
    once = by_bool (up && (on a top p && on a local p)) (λ e. let b : (on a top p && on a local p) ≡ true = and_right up (on a top p && on a local p) e in absurd (omega (arith, ltb-true (index a f) (index a p) (and_left up (on a top p && on a local p) e), fork_highest a top local f p is_fork (and_left (on a top p) (on a local p) b) (and_right (on a top p) (on a local p) b)))) (λ e. e)

    -- not above the fork, a block is on the one walk exactly if it is on the other
    in_fork : (q r : ℕ) → on a q f ≡ true → on a r f ≡ true → up ≡ false → on a q p ≡ true → on a r p ≡ true
    in_fork q r m n u e = elem_append p (above a f q) (walk_of a f) (rw (above_is a f q m) at e) (λ i. no_both up (in_above q i) u) (λ i. rw (above_is a f r n) (rw (append_is p (above a f r) (walk_of a f), i) (or_true (elem p (above a f r)))))
      where
        or_true : (b : Bool) → (b || true) ≡ true
        or_true true = refl
        or_true false = refl

        in_above : (q : ℕ) → elem p (above a f q) ≡ true → up ≡ true
        in_above q i = and_left up (on a q p) (sym (above-elem q) ∙ i)

    same : up ≡ false → on a top p ≡ on a local p
    same u = let k = fork-on a top local f is_fork in by_bool (on a top p) (λ e. e ∙ sym (in_fork top local k.1 k.0 u e)) (λ e. by_bool (on a local p) (λ i. no_both (on a top p) (in_fork local top k.0 k.1 u i) e) (λ i. e ∙ sym i))

    abbrev was : Copy
    was = copy_of (a.holdings.cells p)

    promoted_is : elem p (only (λ p. not (copy_after a.holdings (demotions a local) p).canonical) (above a f top)) ≡ (not (cond (not (under a.floor (index a p)) && (is_canon a p && not (on a local p))) false (is_canon a p)) && (up && on a top p))
    promoted_is = only_is (λ p. not (copy_after a.holdings (demotions a local) p).canonical) p (above a f top) ∙ ap (λ (b : Bool). not b && elem p (above a f top)) by_now ∙ ap (λ (b : Bool). not (cond (not (under a.floor (index a p)) && (is_canon a p && not (on a local p))) false (is_canon a p)) && b) (above-elem top)

    demoted_is : elem p (above a f local ++ only (λ p. not (on a top p)) (aside a local)) ≡ ((up && on a local p) || (not (on a top p) && (under a.floor (index a p) && (is_canon a p && not (on a local p)))))
    demoted_is = append_is p (above a f local) (only (λ p. not (on a top p)) (aside a local)) ∙ ap (λ (b : Bool). b || elem p (only (λ p. not (on a top p)) (aside a local))) (above-elem local) ∙ ap (λ (b : Bool). (up && on a local p) || b) (only_is (λ p. not (on a top p)) p (aside a local) ∙ ap (λ (b : Bool). not (on a top p) && b) (only_is (λ p. under a.floor (index a p)) p (off a local) ∙ ap (λ (b : Bool). under a.floor (index a p) && b) (off_is p room)))

    pub switch_canonical : (copy_after a.holdings (demotions a local ++ promotions a top local f ++ competitors a top local f) p).canonical ≡ on a top p
    switch_canonical =
        ap (λ (k : Copy). k.canonical) (after_append (demotions a local ++ promotions a top local f) (competitors a top local f) p was)
        ∙ flag_each false (demote competing_fork) (demote_flag competing_fork) (above a f local ++ only (λ p. not (on a top p)) (aside a local)) p (after_all (demotions a local ++ promotions a top local f) p was)
        ∙ ap (λ (b : Bool). cond (elem p (above a f local ++ only (λ p. not (on a top p)) (aside a local))) false b) (ap (λ (k : Copy). k.canonical) (after_append (demotions a local) (promotions a top local f) p was) ∙ flag_each true promote promote_flag (only (λ p. not (copy_after a.holdings (demotions a local) p).canonical) (above a f top)) p (after_all (demotions a local) p was))
        ∙ ap (λ (b : Bool). cond b false (cond (elem p (only (λ p. not (copy_after a.holdings (demotions a local) p).canonical) (above a f top))) true (after_all (demotions a local) p was).canonical)) demoted_is
        ∙ ap (λ (b : Bool). cond ((up && on a local p) || (not (on a top p) && (under a.floor (index a p) && (is_canon a p && not (on a local p))))) false (cond b true (after_all (demotions a local) p was).canonical)) promoted_is
        ∙ ap (λ (b : Bool). cond ((up && on a local p) || (not (on a top p) && (under a.floor (index a p) && (is_canon a p && not (on a local p))))) false (cond (not (cond (not (under a.floor (index a p)) && (is_canon a p && not (on a local p))) false (is_canon a p)) && (up && on a top p)) true b)) by_now
        ∙ table (on a top p) (on a local p) (under a.floor (index a p)) (is_canon a p) up once same (λ e. spine_canonical a upheld local is_best p e)

-- ---- where Select stops: the local walk, and what is canonical at or below the floor ----

stopped : (L U C : Bool) → (L ≡ true → C ≡ true) → cond (not U && (C && not L)) false C ≡ (L || U && C)
stopped true true true k = refl
stopped true true false k = no_both false (k refl) refl
stopped true false true k = refl
stopped true false false k = no_both false (k refl) refl
stopped false true true k = refl
stopped false true false k = refl
stopped false false true k = refl
stopped false false false k = refl

pub stop_canonical : (a : Asked) (upheld : Upheld a.holdings canonical (a.values canonical)) (local : ℕ) (is_best : best a.holdings (a.values canonical) ≡ some local) (p : ℕ) → p < a.holdings.room → is_live (a.holdings.cells p) ≡ true
    → (copy_after a.holdings (demotions a local) p).canonical ≡ (on a local p || under a.floor (index a p) && is_canon a p)
stop_canonical a upheld local is_best p i l =
    flag_each false (demote off_spine) (demote_flag off_spine) (only (λ p. not (under a.floor (index a p))) (off a local)) p (copy_of (a.holdings.cells p))
    ∙ (rw (only_is (λ p. not (under a.floor (index a p))) p (off a local), off_is a upheld local is_best p i, live_flag (a.holdings.cells p) l) (stopped (on a local p) (under a.floor (index a p)) (is_canon a p) (λ e. spine_canonical a upheld local is_best p e)))

-- where Select switches
pub select_switches : (a : Asked) (top local f : ℕ) → best a.holdings (a.values winner) ≡ some top → best a.holdings (a.values canonical) ≡ some local → (eqb top local && is_empty (aside a local)) ≡ false → fork a top local ≡ some f → held_back a top local f ≡ false → goes_on a top local f ≡ true
    → select a ≡ switch a top local f
unfolding select select_from select_at
select_switches a top local f t b n k h g = rw (t, b, n, k, h, g)
