-- After a plan's entries are put on the records, each live block's effective copy is as the plan's changes leave it, and no other block changes; so after a select that switches, the canonical blocks are best's walk.
use Prim.Native.Nat.{ℕ, ◌<◌}
use mathlib.Core.Path.{◌≡◌, refl, sym, ◌∙◌, ap}
use mathlib.Core.Bool.{Bool, true, false, cond, ◌&&◌, ◌||◌}
use mathlib.Core.Option.{Option, none, some}
use mathlib.Core.List.{List, [], ◌∷◌, ◌++◌}
use native.Mathlib.Omega.{arith}
use lib.IntN.{ℤ}
use lib.Dec.{eqb, ltb}
use borrow.Author.Tests.{eqb-true, eq-eqb, ltb-true, ltb-false}
use Rattle.model.specs.Lists.{elem, those, each, put_in, sorted, is_empty}
use Rattle.model.specs.Record.{Copy}
use Rattle.model.specs.Holding.{active, Held, Cell, free, held, Holdings, set_copy, effective, copy_is_live, is_free, is_live, is_canonical, hash_of}
use Rattle.model.specs.Standing.{winner, canonical, is_linked, outranks, best}
use Rattle.model.specs.Walks.{Asked, fork}
use Rattle.model.specs.Writes.{Change, changed, Write, after_all, touched, or_blank, copy_of, copy_after, Entry, entry_at, earlier, places_of, entries}
use Rattle.model.specs.Select.{on, aside, demotions, held_back, goes_on, promotions, competitors, switch, select}
use Rattle.model.specs.Numbers.{State}
use Rattle.model.specs.Plans.{records_after, select_c, asked, plan_reply, cell_with}
use Rattle.model.specs.Runs.{Run}
use Rattle.model.proofs.Tools.{by_bool, no_both, not_is_true, or_left, or_right, pick_some}
use Rattle.model.proofs.Parent.{Distinct}
use Rattle.model.proofs.NoSlack.{one_place}
use Rattle.model.proofs.Demand3.{distinct, wide}
use Rattle.model.proofs.Invariant.{live_free}
use Rattle.model.proofs.ListLaws.{elem_nil, elem_head, elem_cases, those-elem}
use Rattle.model.proofs.WalkLaws.{canonical_live, linked_alive, walk_live}
use Rattle.model.proofs.Upheld.{upheld}
use Rattle.model.proofs.PlanLaws.{Every, Says, select_every}
use Rattle.model.proofs.Entries.{OfLive, orderly, not_free, select_live}
use Rattle.model.proofs.Switched.{switch_canonical, select_switches}

abbrev pub copy_here : Cell → Option Copy
copy_here free = none
copy_here (held c) = effective c

-- ---- entries on one cell ----

-- every entry for the hash x has the copy k; there is an entry for x
unfoldable All : ℕ → Copy → List Entry → Type 0
All x k [] = Unit {0}
All x k (e ∷ l) = (x ≡ e.hash → e.copy ≡ k) × All x k l

unfoldable has : ℕ → List Entry → Bool
has x [] = false
has x (e ∷ l) = eqb x e.hash || has x l

stays_so : (k : Copy) (l : List Entry) (c : Held) → All c.header.hash k l → effective c ≡ some k → copy_here (cell_with l (held c)) ≡ some k
unfolding All cell_with set_copy effective
stays_so k [] c a e = e
stays_so k (n ∷ l) c a e = by_bool (eqb c.header.hash n.hash) (λ i. rw i (stays_so k l (set_copy active (some n.copy) c) a.1 (ap {B = Option Copy} some (a.0 (eqb-true c.header.hash n.hash i))))) (λ i. rw i (stays_so k l c a.1 e))

becomes_so : (k : Copy) (l : List Entry) (c : Held) → All c.header.hash k l → has c.header.hash l ≡ true → copy_here (cell_with l (held c)) ≡ some k
unfolding All has cell_with set_copy effective
becomes_so k [] c a e = no_both false e refl
becomes_so k (n ∷ l) c a e = by_bool (eqb c.header.hash n.hash) (λ i. rw i (stays_so k l (set_copy active (some n.copy) c) a.1 (ap {B = Option Copy} some (a.0 (eqb-true c.header.hash n.hash i))))) (λ i. rw i (becomes_so k l c a.1 (rw i at e)))

none_put : (l : List Entry) (c : Cell) → has (hash_of c) l ≡ false → cell_with l c ≡ c
unfolding has cell_with
none_put [] c e = refl
none_put (n ∷ l) free e = none_put l free (or_right (eqb 0 n.hash) (has 0 l) e)
none_put (n ∷ l) (held c) e = let i : eqb c.header.hash n.hash ≡ false = or_left (eqb c.header.hash n.hash) (has c.header.hash l) e in rw i (none_put l (held c) (or_right (eqb c.header.hash n.hash) (has c.header.hash l) e))

stays : (k : Copy) (l : List Entry) (c : Cell) → is_free c ≡ false → All (hash_of c) k l → copy_here c ≡ some k → copy_here (cell_with l c) ≡ some k
unfolding is_free
stays k l free f a e = no_both true refl f
stays k l (held c) f a e = stays_so k l c a e

becomes : (k : Copy) (l : List Entry) (c : Cell) → is_free c ≡ false → All (hash_of c) k l → has (hash_of c) l ≡ true → copy_here (cell_with l c) ≡ some k
unfolding is_free
becomes k l free f a e = no_both true refl f
becomes k l (held c) f a e = becomes_so k l c a e

free_put : (l : List Entry) (c : Cell) → is_free c ≡ true → cell_with l c ≡ c
unfolding is_free cell_with
free_put [] c f = refl
free_put (n ∷ l) free f = free_put l free f
free_put (n ∷ l) (held c) f = no_both false f refl

all_each : (x : ℕ) (k : Copy) (en : ℕ → Entry) (l : List ℕ) → ((q : ℕ) → elem q l ≡ true → x ≡ (en q).hash → (en q).copy ≡ k) → All x k (each en l)
unfolding All each elem
all_each x k en [] h = tt
all_each x k en (q ∷ l) h = (h q (elem_head q l), all_each x k en l (λ r e. h r (by_bool (eqb r q) (λ m. rw m) (λ m. rw m e))))

has-each : (x : ℕ) (en : ℕ → Entry) (q : ℕ) (l : List ℕ) → elem q l ≡ true → x ≡ (en q).hash → has x (each en l) ≡ true
unfolding has each
has-each x en q [] e z = elem_nil q e
has-each x en q (y ∷ l) e z = elem_cases q y l e (λ i. rw (eq-eqb x (en y).hash (z ∙ ap (λ (r : ℕ). (en r).hash) i))) (λ i. by_bool (eqb x (en y).hash) (λ j. rw j) (λ j. rw j (has-each x en q l i z)))

has_not : (x : ℕ) (en : ℕ → Entry) (l : List ℕ) → ((q : ℕ) → elem q l ≡ true → x ≡ (en q).hash → ⊥) → has x (each en l) ≡ false
unfolding has each elem
has_not x en [] h = refl
has_not x en (y ∷ l) h = by_bool (eqb x (en y).hash) (λ i. absurd (h y (elem_head y l) (eqb-true x (en y).hash i))) (λ i. rw i (has_not x en l (λ q e. h q (by_bool (eqb q y) (λ m. rw m) (λ m. rw m e)))))

put_elem : (less : ℕ → ℕ → Bool) (x y : ℕ) (l : List ℕ) → (eqb y x || elem y l) ≡ true → elem y (put_in less x l) ≡ true
unfolding put_in elem
put_elem less x y [] e = e
put_elem less x y (z ∷ l) e = by_bool (less x z) (λ i. rw i e) (λ i. rw i (by_bool (eqb y z) (λ j. rw j) (λ j. rw j (put_elem less x y l (rw j at e)))))

sorted-elem : (less : ℕ → ℕ → Bool) (y : ℕ) (l : List ℕ) → elem y l ≡ true → elem y (sorted less l) ≡ true
unfolding sorted elem
sorted-elem less y [] e = e
sorted-elem less y (x ∷ l) e = put_elem less x y (sorted less l) (by_bool (eqb y x) (λ i. rw i) (λ i. rw i (sorted-elem less y l (rw i at e))))

untouched : (ws : List Write) (p : ℕ) (k : Copy) → touched ws p ≡ false → after_all ws p k ≡ k
unfolding touched after_all
untouched [] p k e = refl
untouched (w ∷ l) p k e = ap (λ (c : Copy). after_all l p c) (let i : eqb w.place p ≡ false = or_left (eqb w.place p) (touched l p) e in rw i) ∙ untouched l p k (or_right (eqb w.place p) (touched l p) e)

pub live_copy : (c : Cell) → is_live c ≡ true → copy_here c ≡ some (copy_of c)
unfolding is_live copy_of
live_copy free e = no_both false e refl
live_copy (held c) e = go (effective c) e
  where
    go : (o : Option Copy) → copy_is_live o ≡ true → o ≡ some (or_blank o)
    go none e = no_both false e refl
    go (some k) e = refl

-- ---- all records ----

module _ (h : Holdings) (distinct_hashes : Distinct h) (ws : List Write) (of_live : Every (OfLive h) ws) where
  places_live : (q : ℕ) → elem q (places_of h ws) ≡ true → is_live (h.cells q) ≡ true
  places_live = (orderly h distinct_hashes ws of_live).live

  pub live_after : (p : ℕ) → p < h.room → is_live (h.cells p) ≡ true → copy_here (cell_with (entries h ws) (h.cells p)) ≡ some (copy_after h ws p)
  unfolding entries
  live_after p i l = by_bool (touched ws p)
      (λ t. becomes (copy_after h ws p) (each (entry_at h ws) (places_of h ws)) (h.cells p) (not_free (h.cells p) l) all (has-each (hash_of (h.cells p)) (entry_at h ws) p (places_of h ws) (sorted-elem (earlier h) p (those (touched ws) h.room) (those-elem (touched ws) p h.room t i)) refl))
      (λ t. stays (copy_after h ws p) (each (entry_at h ws) (places_of h ws)) (h.cells p) (not_free (h.cells p) l) all (live_copy (h.cells p) l ∙ ap {B = Option Copy} some (sym (untouched ws p (copy_of (h.cells p)) t))))
    where
      mine : (q : ℕ) → elem q (places_of h ws) ≡ true → hash_of (h.cells p) ≡ hash_of (h.cells q) → copy_after h ws q ≡ copy_after h ws p
      mine q e z = ap (λ (r : ℕ). copy_after h ws r) (sym (one_place h distinct_hashes p q (not_free (h.cells p) l) (not_free (h.cells q) (places_live q e)) z))

      all : All (hash_of (h.cells p)) (copy_after h ws p) (each (entry_at h ws) (places_of h ws))
      all = all_each (hash_of (h.cells p)) (copy_after h ws p) (entry_at h ws) (places_of h ws) mine

  -- a block that is not live is left as it is
  pub dead_after : (p : ℕ) → is_live (h.cells p) ≡ false → cell_with (entries h ws) (h.cells p) ≡ h.cells p
  unfolding entries
  dead_after p d = by_bool (is_free (h.cells p)) (λ f. free_put (each (entry_at h ws) (places_of h ws)) (h.cells p) f) (λ f. none_put (each (entry_at h ws) (places_of h ws)) (h.cells p) (has_not (hash_of (h.cells p)) (entry_at h ws) (places_of h ws) (λ q e z. let y : p ≡ q = one_place h distinct_hashes p q f (not_free (h.cells q) (places_live q e)) z in no_both (is_live (h.cells q)) (places_live q e) (rw y at d))))

canonical_copy : (c : Cell) (k : Copy) → copy_here c ≡ some k → k.orphaned ≡ false → is_canonical c ≡ k.canonical
unfolding is_canonical
canonical_copy free k e o = let z : ◌≡◌ {A = ℕ} 0 1 = cc in absurd (omega arith)
canonical_copy (held c) k e o = rw (e, o)

-- ---- a select leaves no block orphaned that it changes ----

abbrev Clear : ℕ → Change → Type 0
Clear p c = (k : Copy) → (changed c k).orphaned ≡ false

after_clear : (ws : List Write) (p : ℕ) (k : Copy) → Every Clear ws → k.orphaned ≡ false → (after_all ws p k).orphaned ≡ false
unfolding Every after_all
after_clear [] p k e o = o
after_clear (w ∷ l) p k e o = after_clear l p (cond (eqb w.place p) (changed w.change k) k) e.1 (by_bool (eqb w.place p) (λ i. rw i (e.0 k)) (λ i. rw i o))

select_clear : (a : Asked) → Says Clear (select a)
unfolding changed
select_clear a = select_every Clear a (λ local p b e n k. refl) (λ top p t e k. refl) (λ top local f p b i e k. refl) (λ top local f p b i e n k. refl)

live_clear : (c : Cell) → is_live c ≡ true → (copy_of c).orphaned ≡ false
unfolding is_live copy_of
live_clear free e = no_both false e refl
live_clear (held c) e = go (effective c) e
  where
    go : (o : Option Copy) → copy_is_live o ≡ true → (or_blank o).orphaned ≡ false
    go none e = no_both false e refl
    go (some k) e = not_is_true k.orphaned e

dead_plain : (c : Cell) → is_live c ≡ false → is_canonical c ≡ false
dead_plain c e = by_bool (is_canonical c) (λ i. no_both (is_live c) (canonical_live c i) e) (λ i. i)

-- ---- of every run with a fresh tree: where Select switches, the canonical blocks after it are best's walk ----

module _ {s : State} (r : Run s) (fresh : s.fresh ≡ true) (floor : Option ℕ) (n : ℕ) (clock : ℤ) (lent top local f : ℕ) where
  abbrev asks : Asked
  asks = asked s floor n clock

  pub switched : best s.holdings (s.values winner) ≡ some top → best s.holdings (s.values canonical) ≡ some local → (eqb top local && is_empty (aside asks local)) ≡ false → fork asks top local ≡ some f → held_back asks top local f ≡ false → goes_on asks top local f ≡ true
      → (p : ℕ) → is_canonical ((records_after s.holdings (plan_reply (select_c floor n clock lent) s)).cells p) ≡ on asks top p
  unfolding records_after Says
  switched t b m k hb g p = rw plan (by_bool (is_live (s.holdings.cells p)) alive gone)
    where
      plan : select asks ≡ switch asks top local f
      plan = select_switches asks top local f t b m k hb g

      of_live : Every (OfLive s.holdings) (demotions asks local ++ promotions asks top local f ++ competitors asks top local f)
      of_live = rw plan at (select_live asks (upheld r fresh))

      clear : Every Clear (demotions asks local ++ promotions asks top local f ++ competitors asks top local f)
      clear = rw plan at (select_clear asks)

      top_live : is_live (s.holdings.cells top) ≡ true
      top_live = linked_alive s.holdings winner (s.values winner) (upheld r fresh winner) top (pick_some (λ p. is_linked (s.values winner p)) (outranks s.holdings (s.values winner)) s.holdings.room top t).0

      alive : is_live (s.holdings.cells p) ≡ true → is_canonical (cell_with (entries s.holdings (demotions asks local ++ promotions asks top local f ++ competitors asks top local f)) (s.holdings.cells p)) ≡ on asks top p
      alive l =
          let i : p < s.holdings.room = by_bool (ltb p s.holdings.room) (ltb-true p s.holdings.room) (λ j. no_both (is_live (s.holdings.cells p)) l (live_free (s.holdings.cells p) (wide r p (ltb-false p s.holdings.room j)))) in
          canonical_copy (cell_with (entries s.holdings (demotions asks local ++ promotions asks top local f ++ competitors asks top local f)) (s.holdings.cells p)) (copy_after s.holdings (demotions asks local ++ promotions asks top local f ++ competitors asks top local f) p) (live_after s.holdings (distinct r) (demotions asks local ++ promotions asks top local f ++ competitors asks top local f) of_live p i l) (after_clear (demotions asks local ++ promotions asks top local f ++ competitors asks top local f) p (copy_of (s.holdings.cells p)) clear (live_clear (s.holdings.cells p) l))
          ∙ switch_canonical asks (upheld r fresh canonical) local b top f k p i l

      gone : is_live (s.holdings.cells p) ≡ false → is_canonical (cell_with (entries s.holdings (demotions asks local ++ promotions asks top local f ++ competitors asks top local f)) (s.holdings.cells p)) ≡ on asks top p
      gone d = ap is_canonical (dead_after s.holdings (distinct r) (demotions asks local ++ promotions asks top local f ++ competitors asks top local f) of_live p d) ∙ dead_plain (s.holdings.cells p) d ∙ sym (by_bool (on asks top p) (λ o. no_both (is_live (s.holdings.cells p)) (walk_live s.holdings top p top_live o) d) (λ o. o))
