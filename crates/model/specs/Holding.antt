-- Document 01, "Holding blocks": the three stores, room, the version and the journal.
use Rattle.std.specs.Prelude.{ℕ, suc, ◌+◌, ◌-◌, Bool, true, false, not, ◌&&◌, ◌||◌, List, [], ◌∷◌, reverse, length, take, eqb, ltb}
use Rattle.std.proofs.Math.Option.{Option, none, some}
use Rattle.amount.specs.Choose.{◌if◌else◌}
use Rattle.model.specs.Places.{or_else, is_some, first, count, put_at}
use Rattle.model.specs.Lists.{distinct}
use Rattle.model.specs.Record.{Header, Copy, Block}

-- Three stores: active 0, forks 1, canon 2.
pub data Store : Type 0 where
  active forks canon : Store

abbrev pub store_of : ℕ → Store
store_of k = active if eqb k 0 else forks if eqb k 1 else canon

-- Answers: 0 eligible, 1 eligible for now, 2 ineligible; none given counts as 1, and nothing tells the two apart.
pub data Answer : Type 0 where
  eligible for_now ineligible : Answer

abbrev pub answer_of : ℕ → Answer
answer_of a = eligible if eqb a 0 else for_now if eqb a 1 else ineligible

-- Room keeps the header and the eligibility answer, and a copy for each store that holds the hash.
pub record Held : Type 0 where
  pub header : Header
  pub answer : Answer
  pub in_active : Option Copy
  pub in_forks : Option Copy
  pub in_canon : Option Copy

-- a place, which is free or room for a hash
pub data Cell : Type 0 where
  free : Cell
  held : Held → Cell

pub record Holdings : Type 0 where
  pub room : ℕ  -- the hash room: how many places there are
  pub journal_room : ℕ
  pub cells : ℕ → Cell  -- by place
  pub generation : ℕ
  pub version : ℕ
  pub journal : List ℕ  -- the hashes touched, newest first: their versions are version, version - 1, ..
  pub loading : Bool  -- loads are still taken

-- ---- the record of one hash ----

unfoldable pub copy_in : Store → Held → Option Copy
copy_in active c = c.in_active
copy_in forks c = c.in_forks
copy_in canon c = c.in_canon

unfoldable pub set_copy : Store → Option Copy → Held → Held
set_copy active x c = record { header = c.header; answer = c.answer; in_active = x; in_forks = c.in_forks; in_canon = c.in_canon }
set_copy forks x c = record { header = c.header; answer = c.answer; in_active = c.in_active; in_forks = x; in_canon = c.in_canon }
set_copy canon x c = record { header = c.header; answer = c.answer; in_active = c.in_active; in_forks = c.in_forks; in_canon = x }

unfoldable pub set_answer : Answer → Held → Held
set_answer a c = record { header = c.header; answer = a; in_active = c.in_active; in_forks = c.in_forks; in_canon = c.in_canon }

-- The effective record of a hash is its active copy, else forks, else canon.
unfoldable pub effective : Held → Option Copy
effective c = or_else c.in_active (or_else c.in_forks c.in_canon)

-- It is live if it is effective and not orphaned.
abbrev pub copy_is_live : Option Copy → Bool
copy_is_live none = false
copy_is_live (some k) = not k.orphaned

-- (A canonical block is a live one with the canonical flag: "Standing in the tree".)
abbrev pub copy_is_canonical : Option Copy → Bool
copy_is_canonical none = false
copy_is_canonical (some k) = not k.orphaned && k.canonical

-- ---- one place ----

unfoldable pub is_free : Cell → Bool
is_free free = true
is_free (held c) = false

-- has room for this hash
unfoldable pub has_room : ℕ → Cell → Bool
has_room x free = false
has_room x (held c) = eqb c.header.hash x

-- a store holds its hash
unfoldable pub is_held : Cell → Bool
is_held free = false
is_held (held c) = is_some (effective c)

unfoldable pub is_live : Cell → Bool
is_live free = false
is_live (held c) = copy_is_live (effective c)

unfoldable pub is_canonical : Cell → Bool
is_canonical free = false
is_canonical (held c) = copy_is_canonical (effective c)

abbrev pub hash_of : Cell → ℕ
hash_of free = 0
hash_of (held c) = c.header.hash

abbrev pub index_of : Cell → ℕ
index_of free = 0
index_of (held c) = c.header.index

-- ---- all places ----

-- where the hash has room
unfoldable pub place_of : Holdings → ℕ → Option ℕ
place_of h x = first (λ p. has_room x (h.cells p)) h.room

-- New room takes the lowest free place, counted from 0.
unfoldable pub free_place : Holdings → Option ℕ
free_place h = first (λ p. is_free (h.cells p)) h.room

-- how many hashes have an effective record; how many are live
abbrev pub effective_count : Holdings → ℕ
effective_count h = count (λ p. is_held (h.cells p)) h.room

abbrev pub live_count : Holdings → ℕ
live_count h = count (λ p. is_live (h.cells p)) h.room

abbrev pub with_cells : Holdings → (ℕ → Cell) → Holdings
with_cells h cells = record { room = h.room; journal_room = h.journal_room; cells = cells; generation = h.generation; version = h.version; journal = h.journal; loading = h.loading }

-- the cell at a place, if there is one, changed or tested
abbrev pub change_at : Option ℕ → (Cell → Cell) → (ℕ → Cell) → ℕ → Cell
change_at none f cells = cells
change_at (some p) f cells = put_at cells p (f (cells p))

abbrev pub test_at : Option ℕ → (Cell → Bool) → (ℕ → Cell) → Bool
test_at none f cells = false
test_at (some p) f cells = f (cells p)

-- A put replaces the copy in its store: in the room that the hash has, or in new room, with no other copy and no answer yet.
abbrev pub new_room : Header → Held
new_room h = record { header = h; answer = for_now; in_active = none; in_forks = none; in_canon = none }

unfoldable pub kept : Store → Block → Cell → Cell
kept k b free = held (set_copy k (some b.copy) (new_room b.header))
kept k b (held c) = held (set_copy k (some b.copy) c)

unfoldable pub keep : Store → Block → Holdings → Holdings
keep k b h = with_cells h (change_at (or_else (place_of h b.header.hash) (free_place h)) (kept k b) h.cells)

-- A removal takes the copy out of its store; it is effective if it found one.
unfoldable pub dropped : Store → Cell → Cell
dropped k free = free
dropped k (held c) = held (set_copy k none c)

unfoldable pub drop : Store → ℕ → Holdings → Holdings
drop k x h = with_cells h (change_at (place_of h x) (dropped k) h.cells)

unfoldable pub cell_has : Store → Cell → Bool
cell_has k free = false
cell_has k (held c) = is_some (copy_in k c)

abbrev pub has_copy : Store → ℕ → Holdings → Bool
has_copy k x h = test_at (place_of h x) (cell_has k) h.cells

-- the answer for a hash
unfoldable pub answered : Answer → Cell → Cell
answered a free = free
answered a (held c) = held (set_answer a c)

unfoldable pub take_answer : ℕ → Answer → Holdings → Holdings
take_answer x a h = with_cells h (change_at (place_of h x) (answered a) h.cells)

-- A put, and an effective removal, add one to the version and one journal entry: a touch. The journal keeps the newest entries
-- since start or reload, all of them up to the journal room named at start. A touch closes loading.
unfoldable pub touch : ℕ → Holdings → Holdings
touch x h = record { room = h.room; journal_room = h.journal_room; cells = h.cells; generation = h.generation; version = suc h.version; journal = take h.journal_room (x ∷ h.journal); loading = false }

-- ---- changes since (generation, version) ----

-- None to be had for another generation or a version above ours; an empty list at our version; none to be had if the journal is empty
-- or its oldest entry is above version + 1; otherwise the distinct hashes touched later, in the order of their last touch.
-- (Versions are consecutive, so the oldest entry's is version + 1 - length.)
unfoldable pub changes_in : ℕ → ℕ → List ℕ → ℕ → ℕ → Option (List ℕ)
changes_in generation version journal g v =
    none if not (eqb g generation) || ltb version v else
    some [] if eqb v version else
    none if eqb (length journal) 0 || ltb (v + 1) (suc version - length journal) else
    some (reverse (distinct (take (version - v) journal)))

unfoldable pub changes_since : Holdings → ℕ → ℕ → Option (List ℕ)
changes_since h g v = changes_in h.generation h.version h.journal g v

-- ---- start, reload, and what a sync frees ----

-- Start and reload name a generation and a starting version. Reload empties all. Loads are taken from then on.
unfoldable pub empty : ℕ → ℕ → ℕ → ℕ → Holdings
empty room journal_room generation version = record { room = room; journal_room = journal_room; cells = λ p. free; generation = generation; version = version; journal = []; loading = true }

-- A hash has room while a store holds it, and after its last copy goes until the next sync or reload: a sync frees room at its end, and closes loading.
abbrev pub released : Cell → Cell
released c = c if is_held c else free

unfoldable pub release : Holdings → Holdings
release h = record { room = h.room; journal_room = h.journal_room; cells = λ p. released (h.cells p); generation = h.generation; version = h.version; journal = h.journal; loading = false }
