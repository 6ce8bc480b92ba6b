-- What holds of every state that calls lead to.
use Prim.Native.Nat.{ℕ, ◌≤◌, ◌<◌}
use mathlib.Core.Path.{◌≡◌, refl, sym, ◌∙◌, ap}
use mathlib.Core.Bool.{Bool, true, false, cond, not, ◌||◌}
use mathlib.Core.Option.{Option, none, some, some-injective}
use mathlib.Core.List.{List, []}
use native.Mathlib.Omega.{arith}
use lib.Dec.{eqb, ltb}
use borrow.Author.Tests.{eqb-true, eqb-false, eq-eqb, ltb-true, ltb-false}
use Rattle.model.specs.Places.{or_else, put_at}
use Rattle.model.specs.Lists.{elem}
use Rattle.model.specs.Record.{Header, Block}
use Rattle.model.specs.Holding.{Answer, eligible, for_now, ineligible, Store, Cell, free, held, Holdings, new_room, set_answer, effective, is_free, has_room, is_held, is_live, is_canonical, released, change_at, kept, keep, dropped, drop, has_copy, answered, take_answer, touch, release, empty, with_cells, place_of, free_place, store_of, changes_since, changes_in, answer_of}
use Rattle.model.specs.Standing.{Spine, winner, canonical, Value, unlinked, Values, not_ineligible, standing, value_at}
use Rattle.model.specs.Relink.{changed_in, relinked}
use Rattle.model.specs.Numbers.{Point, State, Call, load, put, remove, answer, reload, sync, begin, clashes, cell_final, number, stale, changes_from, changes, effect, step}
use Rattle.model.specs.Runs.{New, gives_room, new_after, new_next, cell_ineligible, Timely, Run, start, call, new_of, InTime}
use Rattle.model.proofs.Tools.{by_bool, by_option, no_both, no_none, or_left, or_right, first_some, first_none, put_other}
use Rattle.model.proofs.Turn.{named, work_named, Consistent, named_dead}
use Rattle.model.proofs.Parent.{Distinct}
use Rattle.model.proofs.Settled.{settled_consistent}
use Rattle.model.proofs.FromNothing.{release_consistent}
use Rattle.model.proofs.Journal.{changes_here, changes_other, changes_touch}
use Rattle.model.proofs.Cells.{head, room_head, changed_head, dropped-head, answered-head, kept-head, kept_new, Wide, written_wide, written_distinct, written-named, written_other, written_here, given_wide, given_distinct, given_below, given_other}

-- `Sure w`: the values of the walk w can be relied on. Of the canonical walk they always can, of the winner if ineligible answers came in time
pub record Inv (Sure : Spine → Type 0) (s : State) (new : New) : Type 0 where
  pub wide : Wide s.holdings
  pub distinct : Distinct s.holdings
  -- a hash not among the changes since the last sync has the value that working it out would give
  pub clean : (w : Spine) → Sure w → (l : List ℕ) → changes s ≡ some l → (p : ℕ) → changed_in l (s.holdings.cells p) ≡ false → Consistent s.holdings w s.values p
  -- a hash that was given room since the last sync is among the changes
  pub due : (l : List ℕ) → changes s ≡ some l → (x : ℕ) → new x ≡ true → elem x l ≡ true
  -- the last sync lies in the past
  pub past : (at : Point) → s.synced ≡ some at → (at.generation ≤ s.holdings.generation) × (at.generation ≡ s.holdings.generation → at.version ≤ s.holdings.version)
  -- while loads are taken, the next sync rebuilds
  pub opening : s.holdings.loading ≡ true → changes s ≡ none
  -- a fresh tree has no changes to see
  pub current : s.fresh ≡ true → changes s ≡ some []

-- ---- a write for the hash x, and what it leaves ----

-- free places have no value
abbrev pub Blank : Holdings → (ℕ → Value) → Type 0
Blank h v = (p : ℕ) → is_free (h.cells p) ≡ true → v p ≡ unlinked

pub record After (x : ℕ) (h g : Holdings) : Type 0 where
  pub wide : Wide h → Wide g
  pub distinct : Distinct h → Distinct g
  pub other : (q : ℕ) → has_room x (g.cells q) ≡ false → g.cells q ≡ h.cells q
  pub consistent : (w : Spine) (v : Values) → Blank h (v w) → (q : ℕ) → has_room x (g.cells q) ≡ false → Consistent h w v q → Consistent g w v q
  pub below : (v : ℕ → Value) → Blank h v → (q : ℕ) → has_room x (g.cells q) ≡ false → value_at v (named h q) ≡ value_at v (named g q)

after_same : (x : ℕ) (h : Holdings) → After x h h
after_same x h = record { wide = λ k. k; distinct = λ k. k; other = λ q e. refl; consistent = λ w v k q e c. c; below = λ v k q e. refl }

-- a place with room for x is written, and its header kept
after_written : (x : ℕ) (h : Holdings) (p : ℕ) (c : Cell) → head c ≡ head (h.cells p) → has_room x (h.cells p) ≡ true → After x h (with_cells h (put_at h.cells p c))
after_written x h p c same has = record {
  wide = written_wide h p c same;
  distinct = written_distinct h p c same;
  other = λ q e. put_other h.cells p c q (elsewhere q e);
  consistent = λ w v k q e. written_other h p c same w v q (elsewhere q e);
  below = λ v k q e. ap (value_at v) (sym (written-named h p c same q));
}
  where
    elsewhere : (q : ℕ) → has_room x (put_at h.cells p c q) ≡ false → eqb q p ≡ false
    elsewhere q e = by_bool (eqb q p) (λ i. no_both (has_room x c) (room_head x c (h.cells p) same ∙ has) (rw i at e)) (λ i. i)

place_some : (h : Holdings) (x p : ℕ) → place_of h x ≡ some p → (has_room x (h.cells p) ≡ true) × (p < h.room)
unfolding place_of
place_some h x p e = first_some (λ p. has_room x (h.cells p)) h.room p e

room_own : (a : Header) → has_room a.hash (held (new_room a)) ≡ true
unfolding has_room
room_own a = eq-eqb a.hash a.hash refl

free_no_room : (x : ℕ) (c : Cell) → is_free c ≡ true → has_room x c ≡ false
unfolding has_room is_free
free_no_room x free e = refl
free_no_room x (held c) e = no_both false e refl

place_none : (h : Holdings) (x : ℕ) → Wide h → place_of h x ≡ none → (q : ℕ) → has_room x (h.cells q) ≡ false
unfolding place_of
place_none h x k e q = by_bool (ltb q h.room) (λ i. first_none (λ p. has_room x (h.cells p)) h.room q e (ltb-true q h.room i)) (λ i. free_no_room x (h.cells q) (k q (ltb-false q h.room i)))

-- a free place gets room for x, which had none
after_given : (a : Header) (h : Holdings) (p : ℕ) (c : Cell) → head c ≡ some a → is_free (h.cells p) ≡ true → p < h.room → ((q : ℕ) → has_room a.hash (h.cells q) ≡ false) → After a.hash h (with_cells h (put_at h.cells p c))
after_given a h p c new was below nowhere = record {
  wide = given_wide h p c a new was below nowhere;
  distinct = given_distinct h p c a new was below nowhere;
  other = λ q e. put_other h.cells p c q (elsewhere q e);
  consistent = λ w v k q e. given_other h p c a new was below nowhere w v (k p was) q (elsewhere q e);
  below = λ v k q e. given_below h p c a new was below nowhere winner (λ w. v) (k p was) q (elsewhere q e);
}
  where
    elsewhere : (q : ℕ) → has_room a.hash (put_at h.cells p c q) ≡ false → eqb q p ≡ false
    elsewhere q e = by_bool (eqb q p) (λ i. no_both (has_room a.hash c) (room_head a.hash c (held (new_room a)) new ∙ room_own a) (rw i at e)) (λ i. i)

-- a put or a load keeps the copy
pub after_keep : (k : Store) (b : Block) (h : Holdings) → Wide h → After b.header.hash h (keep k b h)
unfolding keep free_place
after_keep k b h w = by_option (place_of h x) fresh_room (λ p e. rw e (after_written x h p (kept k b (h.cells p)) (kept-head k b (h.cells p) (taken p e)) (place_some h x p e).0))
  where
    x : ℕ
    x = b.header.hash

    taken : (p : ℕ) → place_of h x ≡ some p → is_free (h.cells p) ≡ false
    taken p e = by_bool (is_free (h.cells p)) (λ i. no_both (has_room x (h.cells p)) (place_some h x p e).0 (free_no_room x (h.cells p) i)) (λ i. i)

    fresh_room : place_of h x ≡ none → After x h (with_cells h (change_at (or_else (place_of h x) (free_place h)) (kept k b) h.cells))
    fresh_room e = by_option (free_place h) (λ f. rw (e, f) (after_same x h)) (λ p f. let g : (is_free (h.cells p) ≡ true) × (p < h.room) = first_some (λ p. is_free (h.cells p)) h.room p f in rw (e, f) (after_given b.header h p (kept k b (h.cells p)) (kept_new k b (h.cells p) g.0) g.0 g.1 (place_none h x w e)))

-- a removal drops the copy
pub after_drop : (k : Store) (x : ℕ) (h : Holdings) → After x h (drop k x h)
unfolding drop
after_drop k x h = by_option (place_of h x) (λ e. rw e (after_same x h)) (λ p e. rw e (after_written x h p (dropped k (h.cells p)) (dropped-head k (h.cells p)) (place_some h x p e).0))

-- ---- a touch ----

pub changed_less : (x : ℕ) (l m : List ℕ) → ((y : ℕ) → elem y l ≡ (eqb y x || elem y m)) → (c : Cell) → changed_in l c ≡ false → (changed_in m c ≡ false) × (has_room x c ≡ false)
unfolding changed_in has_room
changed_less x l m k free e = (refl, refl)
changed_less x l m k (held c) e =
    let e' : (eqb c.header.hash x || elem c.header.hash m) ≡ false = sym (k c.header.hash) ∙ e in
    (or_right (eqb c.header.hash x) (elem c.header.hash m) e', or_left (eqb c.header.hash x) (elem c.header.hash m) e')

pub changed_free : (l : List ℕ) (c : Cell) → is_free c ≡ true → changed_in l c ≡ false
unfolding changed_in is_free
changed_free l free e = refl
changed_free l (held c) e = no_both false e refl

pub live_free : (c : Cell) → is_free c ≡ true → is_live c ≡ false
unfolding is_live is_free
live_free free e = refl
live_free (held c) e = no_both false e refl

-- what is held does not count for the changes
pub changes_cells : (h : Holdings) (cells : ℕ → Cell) (o : Option Point) → changes_from (with_cells h cells) o ≡ changes_from h o
unfolding changes_since changes_in
changes_cells h cells none = refl
changes_cells h cells (some at) = refl

-- ---- what an answer does to a place ----

changed_room : (x : ℕ) (l : List ℕ) (c : Cell) → has_room x c ≡ true → changed_in l c ≡ elem x l
unfolding changed_in has_room
changed_room x l free e = no_both false e refl
changed_room x l (held c) e = let z : c.header.hash ≡ x = eqb-true c.header.hash x e in rw z

standing-answered : (a : Answer) (c : Cell) → cell_ineligible c ≡ not (not_ineligible a) → (b : Value) → standing winner (answered a c) b ≡ standing winner c b
unfolding standing answered set_answer is_live effective
standing-answered a free e b = refl
standing-answered a (held c) e b = let z : not_ineligible c.answer ≡ not_ineligible a = not_same (not_ineligible c.answer) (not_ineligible a) e in rw z
  where
    not_same : (a b : Bool) → not a ≡ not b → a ≡ b
    not_same true true e = refl
    not_same true false e = sym e
    not_same false true e = sym e
    not_same false false e = refl

standing-canonical : (a : Answer) (c : Cell) (b : Value) → standing canonical (answered a c) b ≡ standing canonical c b
unfolding standing answered set_answer is_canonical effective
standing-canonical a free b = refl
standing-canonical a (held c) b = refl

final_not : (a : ℕ) (c : Cell) → cell_final a c ≡ false → eqb a 2 ≡ false → cell_ineligible c ≡ false
final_not a free e i = refl
final_not a (held c) e i = go c.answer e
  where
    go : (k : Answer) → clashes a k ≡ false → not (not_ineligible k) ≡ false
    go eligible e = refl
    go for_now e = refl
    go ineligible e = no_both true refl (rw i at e)

answer_good : (a : ℕ) → ltb 2 a ≡ false → eqb a 2 ≡ false → not (not_ineligible (answer_of a)) ≡ false
answer_good a e i = by_bool (eqb a 0) (λ j. rw j) (λ j. by_bool (eqb a 1) (λ k. rw (j, k)) (λ k. absurd (omega (arith, ltb-false 2 a e, eqb-false a 2 i, eqb-false a 0 j, eqb-false a 1 k))))

first_false : (t : Bool) (n : ℕ) → cond t 10 n ≡ 0 → t ≡ false
first_false true n e = absurd (omega arith)
first_false false n e = refl

last_false : (t u : Bool) → ◌≡◌ {A = ℕ} (cond t 10 (cond u 11 0)) 0 → u ≡ false
last_false true u e = absurd (omega arith)
last_false false true e = absurd (omega arith)
last_false false false e = refl

module _ (Sure : Spine → Type 0) (s : State) (new : New) (inv : Inv Sure s new) where
  blank : (w : Spine) → Sure w → (l : List ℕ) → changes s ≡ some l → Blank s.holdings (s.values w)
  blank w g l e p f = inv.clean w g l e p (changed_free l (s.holdings.cells p) f) ∙ named_dead s.holdings s.values w p (live_free (s.holdings.cells p) f)

  -- a put and an effective removal: a write for x, and its touch
  module _ (x : ℕ) (cells : ℕ → Cell) (after : After x s.holdings (with_cells s.holdings cells)) where
    abbrev written : Holdings
    written = with_cells s.holdings cells

    -- the changes to be had after it were to be had before, but for x
    pub before : (l : List ℕ) → changes (stale s (touch x written)) ≡ some l → (m : List ℕ) × (changes s ≡ some m) × ((y : ℕ) → elem y l ≡ (eqb y x || elem y m))
    unfolding changes_since changes_in
    before l e = by_option s.synced (λ n. no_none {a = l} none refl (rw n at e)) (λ at n. rw n (changes_touch written x at.generation at.version (inv.past at n).1 l (rw n at e)))

    touched : (new' : New) → ((y : ℕ) → new' y ≡ true → eqb y x ≡ false → new y ≡ true) → Inv Sure (stale s (touch x written)) new'
    unfolding touch work_named named
    touched new' k = record {
      wide = after.wide inv.wide;
      distinct = after.distinct inv.distinct;
      clean = λ w g l e p c. let b = before l e in let d = changed_less x l b.0 b.2 (cells p) c in after.consistent w s.values (blank w g b.0 b.1) p d.1 (inv.clean w g b.0 b.1 p (rw (sym (after.other p d.1)) d.0));
      due = λ l e y n. let b = before l e in rw (b.2 y) (by_bool (eqb y x) (λ i. rw i) (λ i. rw (i, inv.due b.0 b.1 y (k y n i))));
      past = λ at e. ((inv.past at e).0, λ g. let i = (inv.past at e).1 g in omega arith);
      opening = λ e. no_both true refl (sym e);
      current = λ e. no_both false e refl;
    }

  -- ---- the calls, where they are accepted ----

  inv_load : (k : ℕ) (b : Block) → number (load k b) s ≡ 0 → Inv Sure (effect (load k b) s) (new_after (load k b) s new)
  unfolding number effect keep
  inv_load k b e = record {
    wide = a.wide inv.wide;
    distinct = a.distinct inv.distinct;
    clean = λ w g l i. no_none (changes (effect (load k b) s)) rebuilds i;
    due = λ l i. no_none (changes (effect (load k b) s)) rebuilds i;
    past = inv.past;
    opening = λ i. rebuilds;
    current = λ i. no_both false i refl;
  }
    where
      a : After b.header.hash s.holdings (keep (store_of k) b s.holdings)
      a = after_keep (store_of k) b s.holdings inv.wide

      open_now : (t : Bool) (n : ℕ) → cond (not t) 7 n ≡ 0 → t ≡ true
      open_now true n e = refl
      open_now false n e = absurd (omega arith)

      rebuilds : changes (effect (load k b) s) ≡ none
      rebuilds = changes_cells s.holdings _ s.synced ∙ inv.opening (open_now s.holdings.loading _ e)

  inv_put : (k : ℕ) (b : Block) → Inv Sure (effect (put k b) s) (new_after (put k b) s new)
  unfolding effect keep new_after
  inv_put k b = touched b.header.hash _ (after_keep (store_of k) b s.holdings inv.wide) (λ x. new x || gives_room b s x) (λ y n i. or_no (new y) (rw i at n))
    where
      or_no : (a : Bool) → (a || false) ≡ true → a ≡ true
      or_no true e = refl
      or_no false e = e

  inv_remove : (k x : ℕ) → Inv Sure (effect (remove k x) s) new
  unfolding effect drop
  inv_remove k x = by_bool (has_copy (store_of k) x s.holdings) (λ e. rw e (touched x _ (after_drop (store_of k) x s.holdings) new (λ y n i. n))) (λ e. rw e inv)

  inv_reload : (g v : ℕ) → number (reload g v) s ≡ 0 → Inv Sure (effect (reload g v) s) (λ x. false)
  unfolding number effect empty is_free has_room
  inv_reload g v e = record {
    wide = λ q i. refl;
    distinct = λ p q x i j. no_both false i refl;
    clean = λ w y l i. no_none (changes (effect (reload g v) s)) rebuilds i;
    due = λ l i x n. no_both false n refl;
    past = λ at i. (omega (arith, newer, (inv.past at i).0), λ z. let z : at.generation ≡ g = z in absurd (omega (arith, newer, (inv.past at i).0)));
    opening = λ i. rebuilds;
    current = λ i. no_both false i refl;
  }
    where
      newer : s.holdings.generation < g
      newer = by_bool (ltb s.holdings.generation g) (ltb-true s.holdings.generation g) (λ i. let z : ◌≡◌ {A = ℕ} 8 0 = rw i at e in absurd (omega arith))

      rebuilds : changes (effect (reload g v) s) ≡ none
      rebuilds = by_option s.synced (λ n. rw n) (λ at n. rw n (changes_other _ at.generation at.version (λ z. let z : at.generation ≡ g = z in let j = (inv.past at n).0 in omega (arith, newer))))

  -- a sync, whether it rebuilds or not, leaves every place consistent
  sync_consistent : (w : Spine) → Sure w → (p : ℕ) → Consistent s.holdings w (relinked s.holdings s.values (changes s)) p
  unfolding relinked
  sync_consistent w g = by_option (changes s) rebuilt incremental
    where
      rebuilt : changes s ≡ none → (p : ℕ) → Consistent s.holdings w (relinked s.holdings s.values (changes s)) p
      rebuilt e = rw e (settled_consistent s.holdings w (λ w p. unlinked) (λ p. is_live (s.holdings.cells p)) inv.distinct inv.wide (record {
        consistent = λ q d. sym (named_dead s.holdings (λ w p. unlinked) w q d);
        roomy = λ q f. live_free (s.holdings.cells q) f;
      }))

      incremental : (l : List ℕ) → changes s ≡ some l → (p : ℕ) → Consistent s.holdings w (relinked s.holdings s.values (changes s)) p
      incremental l e = rw e (settled_consistent s.holdings w s.values (λ p. changed_in l (s.holdings.cells p)) inv.distinct inv.wide (record {
        consistent = inv.clean w g l e;
        roomy = λ q f. changed_free l (s.holdings.cells q) f;
      }))

  inv_sync : Inv Sure (effect sync s) (λ x. false)
  unfolding effect release has_room is_free
  inv_sync = record {
    wide = λ q i. release_free (s.holdings.cells q) (inv.wide q i);
    distinct = λ p q x i j. inv.distinct p q x (release_room x (s.holdings.cells p) i) (release_room x (s.holdings.cells q) j);
    clean = λ w g l e p c. release_consistent s.holdings inv.distinct w (relinked s.holdings s.values (changes s)) (sync_consistent w g) p;
    due = λ l e x n. no_both false n refl;
    past = λ at e. let z : here ≡ at = some-injective here at e in (omega (arith, ap (λ (o : Point). o.generation) z), λ g. omega (arith, ap (λ (o : Point). o.version) z));
    opening = λ e. no_both false e refl;
    current = λ e. changes_here (release s.holdings);
  }
    where
      here : Point
      here = record { generation = s.holdings.generation; version = s.holdings.version }

      release_free : (c : Cell) → is_free c ≡ true → is_free (released c) ≡ true
      release_free c e = by_bool (is_held c) (λ i. rw i e) (λ i. rw i)

      release_room : (x : ℕ) (c : Cell) → has_room x (released c) ≡ true → has_room x c ≡ true
      release_room x c e = by_bool (is_held c) (λ i. rw i at e) (λ i. no_both false (rw i at e) refl)

  -- ---- an answer ----

  -- a place is written, its header and its rule kept, but where its value is due
  module _ (p : ℕ) (c : Cell) (same : head c ≡ head (s.holdings.cells p)) (here : (w : Spine) → Sure w → (l : List ℕ) → changes s ≡ some l → changed_in l (s.holdings.cells p) ≡ false → (b : Value) → standing w c b ≡ standing w (s.holdings.cells p) b) where
    rewritten : Inv Sure (record { holdings = with_cells s.holdings (put_at s.holdings.cells p c); values = s.values; synced = s.synced; fresh = s.fresh }) new
    rewritten = record {
      wide = written_wide s.holdings p c same inv.wide;
      distinct = written_distinct s.holdings p c same inv.distinct;
      clean = λ w g l e q d. by_bool (eqb q p) (λ i. let z : q ≡ p = eqb-true q p i in let d' : changed_in l (s.holdings.cells p) ≡ false = sym (changed_head l c (s.holdings.cells p) same) ∙ (rw i at d) in rw z (written_here s.holdings p c same w s.values (here w g l (as_before l e) d') (inv.clean w g l (as_before l e) p d'))) (λ i. written_other s.holdings p c same w s.values q i (inv.clean w g l (as_before l e) q (rw i at d)));
      due = λ l e. inv.due l (as_before l e);
      past = inv.past;
      opening = λ i. changes_cells s.holdings (put_at s.holdings.cells p c) s.synced ∙ inv.opening i;
      current = λ i. changes_cells s.holdings (put_at s.holdings.cells p c) s.synced ∙ inv.current i;
    }
      where
        as_before : (l : List ℕ) → changes_from (with_cells s.holdings (put_at s.holdings.cells p c)) s.synced ≡ some l → changes s ≡ some l
        as_before l e = sym (changes_cells s.holdings (put_at s.holdings.cells p c) s.synced) ∙ e

  -- 0 and 1 change no value; 2 is for a hash whose value is due, or is there already
  inv_answer : (x a : ℕ) → (Sure winner → Timely (answer x a) s new) → number (answer x a) s ≡ 0 → Inv Sure (effect (answer x a) s) new
  unfolding effect take_answer number
  inv_answer x a t e = by_option (place_of s.holdings x) (λ n. rw n inv) (λ p n. rw n (rewritten p (answered (answer_of a) (s.holdings.cells p)) (answered-head (answer_of a) (s.holdings.cells p)) (same_rule p n)))
    where
      same_rule : (p : ℕ) → place_of s.holdings x ≡ some p → (w : Spine) → Sure w → (l : List ℕ) → changes s ≡ some l → changed_in l (s.holdings.cells p) ≡ false → (b : Value) → standing w (answered (answer_of a) (s.holdings.cells p)) b ≡ standing w (s.holdings.cells p) b
      same_rule p n canonical g l c d = standing-canonical (answer_of a) (s.holdings.cells p)
      same_rule p n winner g l c d = standing-answered (answer_of a) (s.holdings.cells p) (by_bool (eqb a 2) bad good)
        where
          f : ◌≡◌ {A = ℕ} (cond (ltb 2 a) 10 (cond (cell_final a (s.holdings.cells p)) 11 0)) 0
          f = rw n at e

          bad : eqb a 2 ≡ true → cell_ineligible (s.holdings.cells p) ≡ not (not_ineligible (answer_of a))
          bad i =
              let z : a ≡ 2 = eqb-true a 2 i in
              let u : (new x || cell_ineligible (s.holdings.cells p)) ≡ true = rw n at (t g z e) in
              by_bool (new x) (λ j. no_both (changed_in l (s.holdings.cells p)) (changed_room x l (s.holdings.cells p) (place_some s.holdings x p n).0 ∙ inv.due l c x j) d) (λ j. rw z (rw j at u))

          good : eqb a 2 ≡ false → cell_ineligible (s.holdings.cells p) ≡ not (not_ineligible (answer_of a))
          good i = final_not a (s.holdings.cells p) (last_false (ltb 2 a) (cell_final a (s.holdings.cells p)) f) i ∙ sym (answer_good a (first_false (ltb 2 a) _ f) i)

  -- any call, accepted or refused
  pub inv_call : (c : Call) → (Sure winner → Timely c s new) → Inv Sure (step c s) (new_next c s new)
  unfolding step new_next new_after
  inv_call c t = by_bool (eqb (number c s) 0) (λ e. rw e (accepted c t (eqb-true (number c s) 0 e))) (λ e. rw e inv)
    where
      accepted : (c : Call) → (Sure winner → Timely c s new) → number c s ≡ 0 → Inv Sure (effect c s) (new_after c s new)
      accepted (load k b) t e = inv_load k b e
      accepted (put k b) t e = inv_put k b
      accepted (remove k x) t e = inv_remove k x
      accepted (answer x a) t e = inv_answer x a t e
      accepted (reload g v) t e = inv_reload g v e
      accepted sync t e = inv_sync

pub inv_start : (Sure : Spine → Type 0) (room journal_room generation version : ℕ) → Inv Sure (begin room journal_room generation version) (λ x. false)
unfolding empty is_free has_room
inv_start Sure room journal_room generation version = record {
  wide = λ q i. refl;
  distinct = λ p q x i j. no_both false i refl;
  clean = λ w g l e. no_none none refl e;
  due = λ l e x n. no_both false n refl;
  past = λ at e. no_none none refl e;
  opening = λ e. refl;
  current = λ e. no_both false e refl;
}

-- of runs with answers in time, and of any runs

abbrev pub Always : Spine → Type 0
Always w = Unit {0}

abbrev pub CanonicalOnly : Spine → Type 0
CanonicalOnly winner = ⊥
CanonicalOnly canonical = Unit {0}

pub in_time : {s : State} (r : Run s) → InTime r → Inv Always s (new_of r)
unfolding new_of InTime
in_time (start room journal_room generation version) t = inv_start Always room journal_room generation version
in_time (call c {s} r) t = inv_call Always s (new_of r) (in_time r t.1) c (λ g. t.0)

pub any_time : {s : State} (r : Run s) → Inv CanonicalOnly s (new_of r)
unfolding new_of
any_time (start room journal_room generation version) = inv_start CanonicalOnly room journal_room generation version
any_time (call c {s} r) = inv_call CanonicalOnly s (new_of r) (any_time r) c (λ g. absurd g)
