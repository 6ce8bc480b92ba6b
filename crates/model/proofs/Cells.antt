-- What a call that writes one place leaves as it was.
use Prim.Native.Nat.{ℕ, suc, ◌≤◌, ◌<◌}
use mathlib.Core.Path.{◌≡◌, refl, sym, ◌∙◌, ap, fun_ext}
use mathlib.Core.Bool.{Bool, true, false, ◌&&◌}
use mathlib.Core.Option.{Option, none, some}
use mathlib.Core.List.{List}
use native.Mathlib.Omega.{arith}
use lib.Dec.{eqb}
use borrow.Author.Tests.{eqb-true, ne_eqb}
use Rattle.model.specs.Places.{first, put_at}
use Rattle.model.specs.Lists.{elem}
use Rattle.model.specs.Record.{Header, Copy, Block}
use Rattle.model.specs.Holding.{Answer, Store, active, forks, canon, Held, Cell, free, held, Holdings, set_copy, set_answer, new_room, is_free, has_room, kept, dropped, answered, with_cells}
use Rattle.model.specs.Standing.{Spine, Value, unlinked, Values, standing, names, value_at}
use Rattle.model.specs.Relink.{changed_in}
use Rattle.model.proofs.Tools.{by_bool, by_option, no_both, first_some, first_nowhere, put_same, put_other}
use Rattle.model.proofs.Turn.{named, work_named, Consistent}
use Rattle.model.proofs.Parent.{Distinct, one_hash}
use Rattle.model.proofs.FromNothing.{names-free}

-- the header at a place
abbrev pub head : Cell → Option Header
head free = none
head (held c) = some c.header

-- the tests that see the header alone
by_head : {A : Type 0} (f : Cell → A) (g : Option Header → A) → ((c : Cell) → f c ≡ g (head c)) → (c d : Cell) → head c ≡ head d → f c ≡ f d
by_head f g k c d e = k c ∙ ap g e ∙ sym (k d)

abbrev room_of : ℕ → Option Header → Bool
room_of x none = false
room_of x (some a) = eqb a.hash x

room_of_lem : (x : ℕ) (c : Cell) → has_room x c ≡ room_of x (head c)
unfolding has_room
room_of_lem x free = refl
room_of_lem x (held c) = refl

pub room_head : (x : ℕ) (c d : Cell) → head c ≡ head d → has_room x c ≡ has_room x d
room_head x = by_head (has_room x) (room_of x) (room_of_lem x)

pub free_head : (c d : Cell) → head c ≡ head d → is_free c ≡ is_free d
unfolding is_free
free_head = by_head is_free g k
  where
    g : Option Header → Bool
    g none = true
    g (some a) = false

    k : (c : Cell) → is_free c ≡ g (head c)
    k free = refl
    k (held c) = refl

pub changed_head : (l : List ℕ) (c d : Cell) → head c ≡ head d → changed_in l c ≡ changed_in l d
unfolding changed_in
changed_head l = by_head (changed_in l) g k
  where
    g : Option Header → Bool
    g none = false
    g (some a) = elem a.hash l

    k : (c : Cell) → changed_in l c ≡ g (head c)
    k free = refl
    k (held c) = refl

names_of : Option Header → Option Header → Bool
names_of none d = false
names_of (some c) none = false
names_of (some c) (some d) = eqb d.hash c.prev && eqb (suc d.index) c.index

names_of_lem : (c d : Cell) → names c d ≡ names_of (head c) (head d)
unfolding names names_of
names_of_lem free d = refl
names_of_lem (held c) free = refl
names_of_lem (held c) (held d) = refl

names-head : (c d c' d' : Cell) → head c' ≡ head c → head d' ≡ head d → names c' d' ≡ names c d
names-head c d c' d' e k = names_of_lem c' d' ∙ (rw (e, k)) ∙ sym (names_of_lem c d)

-- the writes that keep the header
pub copy_head : (k : Store) (o : Option Copy) (c : Held) → (set_copy k o c).header ≡ c.header
unfolding set_copy
copy_head active o c = refl
copy_head forks o c = refl
copy_head canon o c = refl

pub dropped-head : (k : Store) (c : Cell) → head (dropped k c) ≡ head c
unfolding dropped
dropped-head k free = refl
dropped-head k (held c) = ap {B = Option Header} some (copy_head k none c)

pub answered-head : (a : Answer) (c : Cell) → head (answered a c) ≡ head c
unfolding answered set_answer
answered-head a free = refl
answered-head a (held c) = refl

pub kept-head : (k : Store) (b : Block) (c : Cell) → is_free c ≡ false → head (kept k b c) ≡ head c
unfolding kept is_free
kept-head k b free e = no_both true refl e
kept-head k b (held c) e = ap {B = Option Header} some (copy_head k (some b.copy) c)

pub kept_new : (k : Store) (b : Block) (c : Cell) → is_free c ≡ true → head (kept k b c) ≡ some b.header
unfolding kept is_free
kept_new k b free e = ap {B = Option Header} some (copy_head k (some b.copy) (new_room b.header))
kept_new k b (held c) e = no_both false e refl

-- no place at and past the room is taken
abbrev pub Wide : Holdings → Type 0
Wide h = (q : ℕ) → h.room ≤ q → is_free (h.cells q) ≡ true

-- ---- one place is written, and its header kept ----
module _ (h : Holdings) (p : ℕ) (c : Cell) (same : head c ≡ head (h.cells p)) where
  abbrev written : Holdings
  written = with_cells h (put_at h.cells p c)

  heads : (q : ℕ) → head (put_at h.cells p c q) ≡ head (h.cells q)
  heads q = by_bool (eqb q p) (λ e. let z : q ≡ p = eqb-true q p e in rw (z, put_same h.cells p c) same) (λ e. rw (put_other h.cells p c q e))

  pub written_wide : Wide h → Wide written
  written_wide k q i = free_head (put_at h.cells p c q) (h.cells q) (heads q) ∙ k q i

  pub written_distinct : Distinct h → Distinct written
  written_distinct k q r x i j = k q r x (sym (room_head x (put_at h.cells p c q) (h.cells q) (heads q)) ∙ i) (sym (room_head x (put_at h.cells p c r) (h.cells r) (heads r)) ∙ j)

  pub written-named : (q : ℕ) → named written q ≡ named h q
  unfolding named
  written-named q = ap (λ f. first f h.room) (fun_ext (λ r. names-head (h.cells q) (h.cells r) (put_at h.cells p c q) (put_at h.cells p c r) (heads q) (heads r)))

  -- another place is worked out as before
  pub written_other : (w : Spine) (v : Values) (q : ℕ) → eqb q p ≡ false → Consistent h w v q → Consistent written w v q
  unfolding work_named
  written_other w v q e k = k ∙ (rw (written-named q, put_other h.cells p c q e))

  -- and the place itself, where its rule is the same
  pub written_here : (w : Spine) (v : Values) → ((b : Value) → standing w c b ≡ standing w (h.cells p) b) → Consistent h w v p → Consistent written w v p
  unfolding work_named
  written_here w v s k = k ∙ (rw (written-named p, put_same h.cells p c) (sym (s (value_at (v w) (named h p)))))

-- ---- a free place gets room for a hash that has none ----
free_is : (c : Cell) → is_free c ≡ true → c ≡ free
unfolding is_free
free_is free e = refl
free_is (held c) e = no_both false e refl

module _ (h : Holdings) (p : ℕ) (c : Cell) (a : Header) (new : head c ≡ some a) (was : is_free (h.cells p) ≡ true) (below : p < h.room) (nowhere : (q : ℕ) → has_room a.hash (h.cells q) ≡ false) where
  abbrev given : Holdings
  given = with_cells h (put_at h.cells p c)

  new_hash : (x : ℕ) → has_room x c ≡ true → a.hash ≡ x
  new_hash x e = eqb-true a.hash x (sym (ap (room_of x) new) ∙ sym (room_of_lem x c) ∙ e)

  pub given_wide : Wide h → Wide given
  given_wide k q i = rw (put_other h.cells p c q (ne_eqb q p (λ z. let z : q ≡ p = z in omega arith))) (k q i)

  pub given_distinct : Distinct h → Distinct given
  given_distinct k q r x i j = by_bool (eqb q p) (λ e. by_bool (eqb r p) (λ f. eqb-true q p e ∙ sym (eqb-true r p f)) (λ f. clash q r e f i j)) (λ e. by_bool (eqb r p) (λ f. clash r q f e j i) (λ f. k q r x (rw (put_other h.cells p c q e) at i) (rw (put_other h.cells p c r f) at j)))
    where
      clash : {P : Type 0} (q r : ℕ) → eqb q p ≡ true → eqb r p ≡ false → has_room x (put_at h.cells p c q) ≡ true → has_room x (put_at h.cells p c r) ≡ true → P
      clash q r e f i j =
          let z : a.hash ≡ x = new_hash x (rw e at i) in
          no_both (has_room x (h.cells r)) (rw f at j) (rw z at (nowhere r))

  module _ (w : Spine) (v : Values) (none_here : v w p ≡ unlinked) (q : ℕ) (other : eqb q p ≡ false) where
    -- q names c: before it named no place
    alone : names (h.cells q) c ≡ true → (r : ℕ) → names (h.cells q) (h.cells r) ≡ false
    alone m r = by_bool (names (h.cells q) (h.cells r)) (λ n. let o : (x : ℕ) × (has_room x (h.cells r) ≡ true) × (has_room x c ≡ true) = one_hash (h.cells q) (h.cells r) c n m in let z : a.hash ≡ o.0 = new_hash o.0 o.2 in no_both (has_room o.0 (h.cells r)) o.1 (rw z at (nowhere r))) (λ n. n)

    pub given_below : value_at (v w) (named h q) ≡ value_at (v w) (named given q)
    unfolding named
    given_below = by_bool (names (h.cells q) c) yes_named not_named
      where
        is : ℕ → Bool
        is r = names (put_at h.cells p c q) (put_at h.cells p c r)

        is_other : (r : ℕ) → eqb r p ≡ false → is r ≡ names (h.cells q) (h.cells r)
        is_other r e = rw (put_other h.cells p c q other, put_other h.cells p c r e)

        not_named : names (h.cells q) c ≡ false → value_at (v w) (named h q) ≡ value_at (v w) (named given q)
        not_named m = ap (λ f. value_at (v w) (first f h.room)) (fun_ext (λ r. by_bool (eqb r p) (λ e. let z : r ≡ p = eqb-true r p e in rw (other, e, z, free_is (h.cells p) was, m) (names-free (h.cells q))) (λ e. sym (is_other r e))))

        yes_named : names (h.cells q) c ≡ true → value_at (v w) (named h q) ≡ value_at (v w) (named given q)
        yes_named m = by_option (named given q) (λ n. rw (first_nowhere (λ r. names (h.cells q) (h.cells r)) h.room (alone m), n)) (λ r n. by_bool (eqb r p) (λ e. rw (first_nowhere (λ r. names (h.cells q) (h.cells r)) h.room (alone m), n) (let z : r ≡ p = eqb-true r p e in rw z (sym none_here))) (λ e. no_both (names (h.cells q) (h.cells r)) (sym (is_other r e) ∙ (first_some is h.room r n).0) (alone m r)))

    pub given_other : Consistent h w v q → Consistent given w v q
    unfolding work_named
    given_other k = k ∙ (rw (put_other h.cells p c q other) (ap (standing w (h.cells q)) given_below))
