-- Document 01 by small examples, all computed: the header, "Holding blocks".
use mathlib.Core.Path.{◌≡◌, refl}
use mathlib.Core.Bool.{true, false}
use mathlib.Core.Option.{none, some}
use mathlib.Core.List.{[], ◌∷◌}
use Rattle.amount.specs.Amounts.{readable, unreadable}
use Rattle.model.specs.Holding.{place_of, changes_since}
use Rattle.model.specs.Standing.{unlinked, linked}
use Rattle.model.specs.Questions.{linked_q, effective_q, effective_count_q, generation_q, version_q, HoldingsQuestion, Reply, shown, worth, counted, holdings_reply}
use Rattle.model.specs.Numbers.{State, load, put, remove, answer, reload, sync, begin, number}
use Rattle.model.proofs.Cases.{calls, everything, plain, in_line, dead, block, block_of, genesis, a, b, started, held_all, first_sync, ask}

abbrev ask_held : HoldingsQuestion → State → Reply
ask_held q s = holdings_reply s.holdings q

-- ---- the header ----

-- The first six are its header: A under another index, epoch, previous hash, actual or target is refused; the five others are each copy's own.
same_header_lem : (number (put 0 (block 20 2 10 0 3 3 plain)) held_all ≡ 4) × (number (put 0 (block 20 1 10 1 3 3 plain)) held_all ≡ 4) × (number (put 0 (block 20 1 11 0 3 3 plain)) held_all ≡ 4) × (number (put 0 (block 20 1 10 0 4 3 plain)) held_all ≡ 4) × (number (put 0 (block 20 1 10 0 3 4 plain)) held_all ≡ 4) × (number (put 0 (a dead)) held_all ≡ 0)
unfolding everything
same_header_lem = (refl, refl, refl, refl, refl, refl)

-- Two unreadable amounts make the same header; a readable one is another.
abbrev unread : State
unread = calls (put 0 (block_of 20 1 10 0 unreadable (readable 3) plain) ∷ []) started

unreadable_header : (number (put 1 (block_of 20 1 10 0 unreadable (readable 3) dead)) unread ≡ 0) × (number (put 1 (a plain)) unread ≡ 4)
unfolding everything
unreadable_header = (refl, refl)

-- ---- stores ----

-- The effective record of a hash is its active copy, else forks, else canon. A removal takes the copy out of its own store.
abbrev in_all : State
in_all = calls (load 0 (a plain) ∷ load 1 (a in_line) ∷ load 2 (a dead) ∷ []) started

stores : (ask_held (effective_q 20) in_all ≡ shown (some (a plain))) × (ask_held (effective_q 20) (calls (remove 0 20 ∷ []) in_all) ≡ shown (some (a in_line))) × (ask_held (effective_q 20) (calls (remove 0 20 ∷ remove 1 20 ∷ []) in_all) ≡ shown (some (a dead))) × (ask_held (effective_q 20) (calls (remove 0 20 ∷ remove 1 20 ∷ remove 2 20 ∷ []) in_all) ≡ shown none)
unfolding everything
stores = (refl, refl, refl, refl)

-- It is live if it is effective and not orphaned: an orphaned active copy over a plain one in forks is not live.
abbrev covered_copy : State
covered_copy = calls (load 0 (genesis dead) ∷ load 1 (genesis plain) ∷ sync ∷ []) started

effective_alone : (ask (linked_q 10) covered_copy ≡ worth unlinked) × (ask (linked_q 10) (calls (remove 0 10 ∷ sync ∷ []) covered_copy) ≡ worth (linked 5 true))
unfolding everything
effective_alone = (refl, refl)

-- A put replaces the copy in its store, and so does a load.
replaced : (ask_held (effective_q 20) (calls (put 0 (a dead) ∷ []) held_all) ≡ shown (some (a dead))) × (ask_held (effective_q 20) (calls (load 0 (a dead) ∷ []) in_all) ≡ shown (some (a dead)))
unfolding everything
replaced = (refl, refl)

-- ---- version and journal ----

-- A put, and a removal that found a copy, add one to the version; a removal of an absent copy and a load add none.
versions : (ask_held version_q in_all ≡ counted 0) × (ask_held version_q held_all ≡ counted 3) × (ask_held version_q (calls (remove 0 20 ∷ []) held_all) ≡ counted 4) × (ask_held version_q (calls (remove 1 20 ∷ remove 0 40 ∷ []) held_all) ≡ counted 3)
unfolding everything
versions = (refl, refl, refl, refl)

-- A is touched at 1 and 3, B at 2. Changes since (1, version): the distinct hashes touched later, in the order of their last touch.
abbrev touched_twice : State
touched_twice = calls (put 0 (a plain) ∷ put 0 (b plain) ∷ put 1 (a plain) ∷ []) started

last_touch : (changes_since touched_twice.holdings 1 0 ≡ some (30 ∷ 20 ∷ [])) × (changes_since touched_twice.holdings 1 2 ≡ some (20 ∷ []))
unfolding everything
last_touch = (refl, refl)

-- .. none to be had for another generation or a version above ours; an empty list at our version, with an empty journal too; ..
none_to_be_had : (changes_since touched_twice.holdings 0 3 ≡ none) × (changes_since touched_twice.holdings 2 3 ≡ none) × (changes_since touched_twice.holdings 1 3 ≡ some []) × (changes_since touched_twice.holdings 1 4 ≡ none) × (changes_since started.holdings 1 0 ≡ some [])
unfolding everything
none_to_be_had = (refl, refl, refl, refl, refl)

-- The journal keeps the newest entries, all of them up to the journal room: of three touches in a room of two the last two. Its oldest entry, 2, is above 0 + 1 and not above 1 + 1.
abbrev overflowed : State
overflowed = calls (put 0 (genesis plain) ∷ put 0 (a plain) ∷ put 0 (b plain) ∷ []) (begin 5 2 1 0)

oldest_entry : (changes_since overflowed.holdings 1 0 ≡ none) × (changes_since overflowed.holdings 1 1 ≡ some (20 ∷ 30 ∷ [])) × (changes_since overflowed.holdings 1 2 ≡ some (30 ∷ []))
unfolding everything
oldest_entry = (refl, refl, refl)

-- "None to be had" makes sync rebuild: A was orphaned and the journal, with room for one, knows only of B. Nothing of the values before is kept.
abbrev rebuilt : State
rebuilt = calls (put 0 (genesis plain) ∷ put 0 (a plain) ∷ sync ∷ put 0 (a dead) ∷ put 0 (b plain) ∷ sync ∷ []) (begin 5 1 1 0)

rebuild : (ask (linked_q 20) rebuilt ≡ worth unlinked) × (ask (linked_q 30) rebuilt ≡ worth (linked 8 false))
unfolding everything
rebuild = (refl, refl)

-- .. so does the first sync after start. Loads bring in records without a touch.
first_rebuild : ask (linked_q 20) (calls (load 0 (genesis plain) ∷ load 1 (a plain) ∷ sync ∷ []) started) ≡ worth (linked 8 true)
unfolding everything
first_rebuild = refl

-- ---- start, reload, loads ----

-- Start and reload name a generation and a starting version. Reload empties all: records, room, the journal. The next sync rebuilds.
abbrev reloaded : State
reloaded = calls (reload 2 7 ∷ []) first_sync

reloads : (ask_held generation_q reloaded ≡ counted 2) × (ask_held version_q reloaded ≡ counted 7) × (ask_held effective_count_q reloaded ≡ counted 0) × (number (answer 20 1) reloaded ≡ 9) × (changes_since reloaded.holdings 2 6 ≡ none) × (changes_since reloaded.holdings 2 7 ≡ some []) × (ask (linked_q 10) (calls (load 0 (genesis plain) ∷ sync ∷ []) reloaded) ≡ worth (linked 5 true))
unfolding everything
reloads = (refl, refl, refl, refl, refl, refl, refl)

-- Loads are taken from start or reload until the first put, effective removal or sync; a load, an answer, a refused put and the removal of an absent copy close nothing.
loads : (number (load 0 (b plain)) in_all ≡ 0) × (number (load 0 (b plain)) (calls (put 0 (b plain) ∷ []) in_all) ≡ 7) × (number (load 0 (b plain)) (calls (remove 2 20 ∷ []) in_all) ≡ 7) × (number (load 0 (b plain)) (calls (sync ∷ []) in_all) ≡ 7) × (number (load 0 (b plain)) (calls (answer 20 0 ∷ put 3 (b plain) ∷ remove 0 30 ∷ []) in_all) ≡ 0) × (number (load 0 (b plain)) reloaded ≡ 0)
unfolding everything
loads = (refl, refl, refl, refl, refl, refl)

-- ---- room ----

-- A hash has room while a store holds it, orphaned or in canon alone, and after its last copy goes until the next sync: A under another header is refused until then, and its answer taken.
abbrev gone : State
gone = calls (remove 0 20 ∷ []) first_sync

has_room_lem : (number (put 0 (block 20 1 10 9 3 3 plain)) gone ≡ 4) × (number (answer 20 1) gone ≡ 0) × (ask_held effective_count_q gone ≡ counted 2) × (number (put 0 (block 20 1 10 9 3 3 plain)) (calls (sync ∷ []) gone) ≡ 0) × (number (answer 20 1) (calls (sync ∷ []) gone) ≡ 9) × (number (answer 20 1) (calls (load 2 (a dead) ∷ sync ∷ []) started) ≡ 0)
unfolding everything
has_room_lem = (refl, refl, refl, refl, refl, refl)

-- Room keeps the eligibility answer, through other copies and with none.
keeps_answer : number (answer 20 2) (calls (answer 20 0 ∷ put 1 (a dead) ∷ remove 0 20 ∷ remove 1 20 ∷ put 0 (a plain) ∷ []) held_all) ≡ 11
unfolding everything
keeps_answer = refl

-- New room takes the lowest free place, counted from 0: A's place, 1, though 3 and 4 are free too.
lowest_place : (place_of first_sync.holdings 30 ≡ some 2) × (place_of (calls (sync ∷ put 0 (block 40 1 10 0 1 1 plain) ∷ []) gone).holdings 40 ≡ some 1) × (place_of (calls (put 0 (block 40 1 10 0 1 1 plain) ∷ []) gone).holdings 40 ≡ some 3)
unfolding everything
lowest_place = (refl, refl, refl)
