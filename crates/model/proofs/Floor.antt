-- The sequenced part stays (request 6): if a floor is given and the canonical best has proofs ok, then after a plan's entries are put on the records, every block that was canonical at or below the floor is still canonical.
use Prim.Native.Nat.{ℕ, ◌≤◌, ◌<◌}
use mathlib.Core.Path.{◌≡◌, refl}
use mathlib.Core.Bool.{Bool, true, false, cond, not, ◌&&◌, ◌||◌}
use mathlib.Core.Option.{Option, none, some}
use mathlib.Core.List.{List, [], ◌∷◌}
use native.Mathlib.Omega.{arith}
use lib.Dec.{eqb, ltb}
use borrow.Author.Tests.{eqb-true, ltb-true, lt-ltb, leb-true}
use Rattle.model.specs.Places.{is_some}
use Rattle.model.specs.Lists.{elem, any, front, each}
use Rattle.model.specs.Record.{Copy}
use Rattle.model.specs.Holding.{active, Held, Cell, free, held, set_copy, effective, copy_is_canonical, is_free, is_canonical, index_of, hash_of}
use Rattle.model.specs.Standing.{canonical, best, proofs_ok}
use Rattle.model.specs.Walks.{Asked, index, is_canon, covers_at, walk_of, above, under, below}
use Rattle.model.specs.Writes.{Change, promote, demote, orphan, changed, Write, after_all, or_blank, copy_of, copy_after, Entry, entry_at, places_of, entries, Plan, scan, apply}
use Rattle.model.specs.Select.{on, aside, held_back, select}
use Rattle.model.specs.Adopt.{floor_refuses, adopt}
use Rattle.model.specs.Numbers.{State}
use Rattle.model.specs.Plans.{records_after, PlanCall, select_c, adopt_c, asked, hand_back, plan_reply, cell_with}
use Rattle.model.specs.Runs.{Run}
use Rattle.model.proofs.Tools.{by_bool, no_both, or_left, or_right, not_is_true}
use Rattle.model.proofs.Parent.{Distinct}
use Rattle.model.proofs.NoSlack.{one_place}
use Rattle.model.proofs.Demand3.{distinct}
use Rattle.model.proofs.ListLaws.{elem_head, elem-only, elem-front, elem_rev, any_false}
use Rattle.model.proofs.WalkLaws.{walk_index}
use Rattle.model.proofs.Upheld.{upheld}
use Rattle.model.proofs.PlanLaws.{Every, Says, in_walk, select_every, adopt_every}
use Rattle.model.proofs.Entries.{OfLive, orderly, not_free, select_live, adopt_live}

-- ---- no change but a promotion at a canonical block at or below the floor ----

abbrev keeps : Change → Bool
keeps promote = true
keeps (demote r) = false
keeps (orphan t r x) = false

abbrev Safe : Asked → ℕ → Change → Type 0
Safe a p c = is_canon a p ≡ true → under a.floor (index a p) ≡ true → keeps c ≡ true

-- what is above f on the local walk is above the floor, unless f is below both floor and local
over : {P : Type 0} (floor : Option ℕ) (f local p : ℕ) → below floor f local ≡ false → f < p → p ≤ local → under floor p ≡ true → P
over none f local p e i j u = no_both false u refl
over (some floor) f local p e i j u = let k : p ≤ floor = leb-true p floor u in no_both true refl (rw (lt-ltb f floor (omega arith), lt-ltb f local (omega arith)) at e)

module _ (a : Asked) (given : is_some a.floor ≡ true) (anchored : (local : ℕ) → best a.holdings (a.values canonical) ≡ some local → proofs_ok (a.values canonical local) ≡ true) where
  above_over : {P : Type 0} (local f p : ℕ) → below a.floor (index a f) (index a local) ≡ false → elem p (above a f local) ≡ true → under a.floor (index a p) ≡ true → P
  unfolding above
  above_over local f p e m u = over a.floor (index a f) (index a local) (index a p) e (ltb-true (index a f) (index a p) (elem-only (λ q. ltb (index a f) (index a q)) p (walk_of a local) m).0) (walk_index a.holdings local p (in_walk a f local p m)) u

  not_held : (top local f : ℕ) → best a.holdings (a.values canonical) ≡ some local → held_back a top local f ≡ false → (below a.floor (index a f) (index a local) ≡ false) × (any (λ p. not (on a top p)) (aside a local) ≡ false)
  unfolding held_back
  not_held top local f b e =
      let k : ((below a.floor (index a f) (index a local) || any (λ p. not (on a top p)) (aside a local)) || covers_at a local && not (covers_at a top)) ≡ false = rw (anchored local b, given) at e in
      let m : (below a.floor (index a f) (index a local) || any (λ p. not (on a top p)) (aside a local)) ≡ false = or_left (below a.floor (index a f) (index a local) || any (λ p. not (on a top p)) (aside a local)) (covers_at a local && not (covers_at a top)) k in
      (or_left (below a.floor (index a f) (index a local)) (any (λ p. not (on a top p)) (aside a local)) m, or_right (below a.floor (index a f) (index a local)) (any (λ p. not (on a top p)) (aside a local)) m)

  pub select_safe : Says (Safe a) (select a)
  select_safe = select_every (Safe a) a
      (λ local p b e n c u. no_both (under a.floor (index a p)) u (not_is_true (under a.floor (index a p)) n))
      (λ top p t e c u. refl)
      (λ top local f p b i e c u. above_over local f p (not_held top local f b i).0 e u)
      (λ top local f p b i e n c u. no_both (not (on a top p)) n (any_false (λ p. not (on a top p)) p (aside a local) (not_held top local f b i).1 e))

  not_refused : (local f : ℕ) → best a.holdings (a.values canonical) ≡ some local → floor_refuses a local f ≡ false → below a.floor (index a f) (index a local) ≡ false
  not_refused local f b e = rw (anchored local b) at e

  pub adopt_safe : Says (Safe a) (adopt a)
  adopt_safe = adopt_every (Safe a) a
      (λ leaf p lf i e c u. no_both (is_canon a p) c (not_is_true (is_canon a p) (elem-front (λ p. not (is_canon a p)) p (walk_of a leaf) (elem_rev p (front (λ p. not (is_canon a p)) (walk_of a leaf)) e)).0))
      (λ leaf p lf i e c u. refl)
      (λ local f p r x b i e c u. above_over local f p (not_refused local f b i) e u)

-- ---- the records after the entries are put on them ----

changed_canonical : (c : Change) (k : Copy) → keeps c ≡ true → copy_is_canonical (some (changed c k)) ≡ true
unfolding changed
changed_canonical promote k e = refl
changed_canonical (demote r) k e = no_both false e refl
changed_canonical (orphan t r x) k e = no_both false e refl

after_canonical : (ws : List Write) (p : ℕ) (k : Copy) → Every (λ q c. q ≡ p → keeps c ≡ true) ws → copy_is_canonical (some k) ≡ true → copy_is_canonical (some (after_all ws p k)) ≡ true
unfolding Every after_all
after_canonical [] p k e c = c
after_canonical (w ∷ l) p k e c = after_canonical l p (cond (eqb w.place p) (changed w.change k) k) e.1 (by_bool (eqb w.place p) (λ i. rw i (changed_canonical w.change k (e.0 (eqb-true w.place p i)))) (λ i. rw i c))

every_map : (Q R : ℕ → Change → Type 0) → ((p : ℕ) (c : Change) → Q p c → R p c) → (ws : List Write) → Every Q ws → Every R ws
unfolding Every
every_map Q R k [] e = tt
every_map Q R k (w ∷ l) e = (k w.place w.change e.0, every_map Q R k l e.1)

copy_canonical : (c : Cell) → is_canonical c ≡ true → copy_is_canonical (some (copy_of c)) ≡ true
unfolding is_canonical copy_of
copy_canonical free e = no_both false e refl
copy_canonical (held c) e = go (effective c) e
  where
    go : (o : Option Copy) → copy_is_canonical o ≡ true → copy_is_canonical (some (or_blank o)) ≡ true
    go none e = no_both false e refl
    go (some k) e = e

-- every entry for the block's hash has a canonical copy
unfoldable Fine : ℕ → List Entry → Type 0
Fine x [] = Unit {0}
Fine x (e ∷ l) = (x ≡ e.hash → copy_is_canonical (some e.copy) ≡ true) × Fine x l

cell_canonical : (l : List Entry) (c : Held) → Fine c.header.hash l → is_canonical (held c) ≡ true → is_canonical (cell_with l (held c)) ≡ true
unfolding Fine cell_with set_copy effective is_canonical
cell_canonical [] c f i = i
cell_canonical (e ∷ l) c f i = by_bool (eqb c.header.hash e.hash) (λ j. rw j (cell_canonical l (set_copy active (some e.copy) c) (same_hash j) (put_canonical j))) (λ j. rw j (cell_canonical l c f.1 i))
  where
    same_hash : eqb c.header.hash e.hash ≡ true → Fine (set_copy active (some e.copy) c).header.hash l
    same_hash j = f.1

    put_canonical : eqb c.header.hash e.hash ≡ true → is_canonical (held (set_copy active (some e.copy) c)) ≡ true
    put_canonical j = f.0 (eqb-true c.header.hash e.hash j)

fine_each : (x : ℕ) (en : ℕ → Entry) (l : List ℕ) → ((q : ℕ) → elem q l ≡ true → x ≡ (en q).hash → copy_is_canonical (some (en q).copy) ≡ true) → Fine x (each en l)
unfolding Fine each elem
fine_each x en [] k = tt
fine_each x en (q ∷ l) k = (k q (elem_head q l), fine_each x en l (λ r e. k r (by_bool (eqb r q) (λ m. rw m) (λ m. rw m e))))

canonical_here : (c : Cell) → is_canonical c ≡ true → is_free c ≡ false
unfolding is_canonical is_free
canonical_here free e = no_both false e refl
canonical_here (held c) e = refl

with_canonical : (l : List Entry) (c : Cell) → Fine (hash_of c) l → is_canonical c ≡ true → is_canonical (cell_with l c) ≡ true
unfolding is_canonical
with_canonical l free f i = no_both false i refl
with_canonical l (held c) f i = cell_canonical l c f i

module _ (a : Asked) (distinct_hashes : Distinct a.holdings) where
  pub stays : (plan : Plan) → Says (Safe a) plan → Says (OfLive a.holdings) plan → (p : ℕ) → is_canon a p ≡ true → under a.floor (index a p) ≡ true → is_canonical ((records_after a.holdings (hand_back a.holdings plan)).cells p) ≡ true
  unfolding Says records_after entries
  stays scan s l p c u = c
  stays (apply n ws) s l p c u = with_canonical (entries a.holdings ws) (a.holdings.cells p) (fine_each (hash_of (a.holdings.cells p)) (entry_at a.holdings ws) (places_of a.holdings ws) mine) c
    where
      after : copy_is_canonical (some (copy_after a.holdings ws p)) ≡ true
      after = after_canonical ws p (copy_of (a.holdings.cells p)) (every_map (Safe a) (λ q d. q ≡ p → keeps d ≡ true) (λ q d f z. f (rw z c) (rw z u)) ws s) (copy_canonical (a.holdings.cells p) c)

      mine : (q : ℕ) → elem q (places_of a.holdings ws) ≡ true → hash_of (a.holdings.cells p) ≡ hash_of (a.holdings.cells q) → copy_is_canonical (some (copy_after a.holdings ws q)) ≡ true
      mine q e z = let y : p ≡ q = one_place a.holdings distinct_hashes p q (canonical_here (a.holdings.cells p) c) (not_free (a.holdings.cells q) ((orderly a.holdings distinct_hashes ws l).live q e)) z in rw y at after

-- ---- request 6, of every run ----

abbrev pub floor_of : PlanCall → Option ℕ
floor_of (select_c floor n clock lent) = floor
floor_of (adopt_c floor n clock lent) = floor

pub sequenced_stays : {s : State} (r : Run s) → s.fresh ≡ true → (c : PlanCall) → is_some (floor_of c) ≡ true
    → ((local : ℕ) → best s.holdings (s.values canonical) ≡ some local → proofs_ok (s.values canonical local) ≡ true)
    → (p : ℕ) → is_canonical (s.holdings.cells p) ≡ true → under (floor_of c) (index_of (s.holdings.cells p)) ≡ true
    → is_canonical ((records_after s.holdings (plan_reply c s)).cells p) ≡ true
sequenced_stays {s} r f (select_c floor n clock lent) g k p c u = stays (asked s floor n clock) (distinct r) (select (asked s floor n clock)) (select_safe (asked s floor n clock) g k) (select_live (asked s floor n clock) (upheld r f)) p c u
sequenced_stays {s} r f (adopt_c floor n clock lent) g k p c u = stays (asked s floor n clock) (distinct r) (adopt (asked s floor n clock)) (adopt_safe (asked s floor n clock) g k) (adopt_live (asked s floor n clock) (upheld r f)) p c u
