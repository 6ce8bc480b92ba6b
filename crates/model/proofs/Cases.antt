-- Document 01 by small examples, all computed. The blocks and states that every file of cases shares, "Either side of a line" for the tree, and "Standing in the tree".
use Prim.Native.Nat.{ℕ}
use mathlib.Core.Path.{◌≡◌, refl}
use mathlib.Core.Bool.{Bool, true, false}
use mathlib.Core.Option.{none, some}
use mathlib.Core.List.{List, [], ◌∷◌}
use lib.Dec.{eqb}
use Rattle.amount.specs.Choose.{◌if◌else◌}
use Rattle.amount.specs.Amounts.{Amount, readable, unreadable}
use Rattle.model.specs.Places.{first, pick, sum}
use Rattle.model.specs.Lists.{those, put_in, sorted, each, elem, without, distinct}
use Rattle.model.specs.Record.{Copy, Block}
use Rattle.model.specs.Holding.{Holdings, copy_in, set_copy, set_answer, effective, is_free, has_room, is_held, is_live, is_canonical, place_of, free_place, kept, keep, dropped, drop, cell_has, answered, take_answer, touch, release, empty, changes_since, changes_in}
use Rattle.model.specs.Standing.{unlinked, linked, meets, standing, names, parent, at_index, from_nothing, outranks, is_leaf}
use Rattle.model.specs.Relink.{work_out, same, moves, worked, follows, after, goes_before, next, settle, turns, settled, changed_in, relinked}
use Rattle.model.specs.Questions.{lower_hash, TreeQuestion, node, parent_q, linked_q, canonical_linked_q, best_q, canonical_best_q, canonical_count_q, live_count_q, leaves_q, effective_q, Reply, shown, worth, tip, counted, listed, tree_reply, holdings_reply}
use Rattle.model.specs.Numbers.{State, Call, load, put, remove, answer, sync, begin, number, changes, ask_tree, effect, step}
use Rattle.model.specs.Runs.{Run, start, call, new_after, new_next, new_of, InTime}

-- the calls one after another
unfoldable pub calls : List Call → State → State
calls [] s = s
calls (c ∷ l) s = calls l (step c s)

-- to unfold this is to unfold all that a run computes with
unfoldable pub everything : ℕ
unfolding calls first pick sum elem without distinct those put_in sorted each lower_hash copy_in set_copy set_answer effective is_free has_room is_held is_live is_canonical place_of free_place kept keep dropped drop cell_has answered take_answer touch release empty changes_since changes_in standing names parent at_index from_nothing outranks is_leaf work_out moves worked follows after goes_before settle turns settled changed_in relinked number effect step
everything = 0

-- ---- blocks and states ----

-- a copy with these two flags, orphaned and canonical, and none of the optional three
abbrev pub flags : Bool → Bool → Copy
flags o c = record { orphaned = o; canonical = c; time = none; reason = none; competing = none }

abbrev pub plain : Copy
plain = flags false false

abbrev pub in_line : Copy
in_line = flags false true

abbrev pub dead : Copy
dead = flags true false

-- a block: hash, index, previous hash, epoch, actual, target
abbrev pub block_of : ℕ → ℕ → ℕ → ℕ → Amount → Amount → Copy → Block
block_of hash index prev epoch actual target k = record { header = record { hash = hash; index = index; epoch = epoch; prev = prev; target = target; actual = actual }; copy = k }

abbrev pub block : ℕ → ℕ → ℕ → ℕ → ℕ → ℕ → Copy → Block
block hash index prev epoch actual target k = block_of hash index prev epoch (readable actual) (readable target) k

-- 01's genesis G (actual 5, target 5) and its children A (3, 3) and B (3, 4)
abbrev pub genesis : Copy → Block
genesis k = block 10 0 0 0 5 5 k

abbrev pub a : Copy → Block
a k = block 20 1 10 0 3 3 k

abbrev pub b : Copy → Block
b k = block 30 1 10 0 3 4 k

-- a fresh start with room for five hashes and five journal entries: generation 1, version 0
abbrev pub started : State
started = begin 5 5 1 0

abbrev pub held_all : State
held_all = calls (put 0 (genesis plain) ∷ put 0 (a plain) ∷ put 0 (b plain) ∷ []) started

abbrev pub first_sync : State
first_sync = calls (sync ∷ []) held_all

-- the genesis and some blocks, synced
abbrev pub with_genesis : Block → Block → State
with_genesis x y = calls (put 0 (genesis plain) ∷ put 0 x ∷ put 0 y ∷ sync ∷ []) started

abbrev pub ask : TreeQuestion → State → Reply
ask q s = tree_reply s.holdings s.values q

-- ---- "Either side of a line" ----

-- Genesis G, children A and B: both work 8, proofs ok for A only, both leaves, best is the lower hash.
siblings : (ask (linked_q 20) first_sync ≡ worth (linked 8 true)) × (ask (linked_q 30) first_sync ≡ worth (linked 8 false)) × (ask (leaves_q 2) first_sync ≡ listed (some (20 ∷ 30 ∷ []))) × (ask best_q first_sync ≡ tip (some (a plain)) (linked 8 true)) × (ask canonical_best_q first_sync ≡ tip none unlinked)
unfolding everything
siblings = (refl, refl, refl, refl, refl)

-- ---- parent ----

-- Parent: the live block named by the previous hash whose index is one less. A block two above the one it names has none, and is not linked.
two_above : (ask (parent_q 20) first_sync ≡ shown (some (genesis plain))) × (ask (parent_q 40) (with_genesis (a plain) (block 40 2 10 0 1 1 plain)) ≡ shown none) × (ask (linked_q 40) (with_genesis (a plain) (block 40 2 10 0 1 1 plain)) ≡ worth unlinked)
unfolding everything
two_above = (refl, refl, refl)

-- Index 0 has none, whatever it names: 40 stands at index 0 and names the genesis, which stays a leaf.
abbrev second_root : State
second_root = with_genesis (block 40 0 10 0 7 7 plain) (block 50 0 20 0 1 1 dead)

index_0 : (ask (parent_q 40) second_root ≡ shown none) × (ask (linked_q 40) second_root ≡ worth (linked 7 true)) × (ask (leaves_q 2) second_root ≡ listed (some (10 ∷ 40 ∷ [])))
unfolding everything
index_0 = (refl, refl, refl)

-- .. the live block: an orphaned one is nobody's parent, and no node of the tree, though it is effective. What is not live has no parent itself.
abbrev dead_genesis : State
dead_genesis = calls (put 0 (genesis dead) ∷ put 0 (a plain) ∷ sync ∷ []) started

live_parent : (parent dead_genesis.holdings 1 ≡ none) × (ask (parent_q 20) dead_genesis ≡ shown none) × (ask (linked_q 20) dead_genesis ≡ worth unlinked) × (ask (node 10) dead_genesis ≡ shown none) × (holdings_reply dead_genesis.holdings (effective_q 10) ≡ shown (some (genesis dead))) × (ask (parent_q 20) (with_genesis (a dead) (b plain)) ≡ shown none)
unfolding everything
live_parent = (refl, refl, refl, refl, refl, refl)

-- ---- meets target, linked ----

-- Meets target: both amounts readable, target above 0, actual at least target.
targets : (meets (readable 3) (readable 3) ≡ true) × (meets (readable 4) (readable 3) ≡ false) × (meets (readable 0) (readable 3) ≡ false) × (meets unreadable (readable 3) ≡ false) × (meets (readable 3) unreadable ≡ false)
targets = (refl, refl, refl, refl, refl)

-- Linked: live, actual readable. With an unreadable target a block is linked, its proofs not ok.
readable_actual : (ask (linked_q 20) (with_genesis (block_of 20 1 10 0 unreadable (readable 3) plain) (b dead)) ≡ worth unlinked) × (ask (linked_q 30) (with_genesis (block_of 20 1 10 0 unreadable (readable 3) plain) (b dead)) ≡ worth unlinked) × (ask (linked_q 20) (with_genesis (block_of 20 1 10 0 (readable 3) unreadable plain) (b dead)) ≡ worth (linked 8 false))
unfolding everything
readable_actual = (refl, refl, refl)

-- At index 0 work is the actual and proofs are ok, with any target.
genesis_proofs : ask (linked_q 10) (calls (put 0 (block 10 0 0 0 5 6 plain) ∷ sync ∷ []) started) ≡ worth (linked 5 true)
unfolding everything
genesis_proofs = refl

-- .. above, the parent must be linked, work is the parent's plus the actual, and proofs are ok if the parent's are and it meets target: C meets its own, B doesn't.
proofs_below : ask (linked_q 40) (with_genesis (b plain) (block 40 2 30 0 1 1 plain)) ≡ worth (linked 9 false)
unfolding everything
proofs_below = refl

-- A sum over 128 bits: not linked. On a genesis of 2^128 - 2 an actual of 1 is linked, 2 is not.
abbrev heavy : ℕ → State
heavy actual = calls (put 0 (block 10 0 0 0 340282366920938463463374607431768211454 1 plain) ∷ put 0 (block 20 1 10 0 actual 1 plain) ∷ sync ∷ []) started

sums : (ask (linked_q 20) (heavy 1) ≡ worth (linked 340282366920938463463374607431768211455 true)) × (ask (linked_q 20) (heavy 2) ≡ worth unlinked)
unfolding everything
sums = (refl, refl)

-- ---- canonical linked ----

-- Canonical linked: the same over canonical blocks only, with no eligibility: A was answered ineligible, and B is not canonical.
abbrev in_line_lem : State
in_line_lem = calls (put 0 (genesis in_line) ∷ put 0 (a in_line) ∷ put 0 (b plain) ∷ answer 20 2 ∷ sync ∷ []) started

canonical_blocks : (ask (canonical_linked_q 20) in_line_lem ≡ worth (linked 8 true)) × (ask (linked_q 20) in_line_lem ≡ worth unlinked) × (ask (canonical_linked_q 30) in_line_lem ≡ worth unlinked) × (ask (linked_q 30) in_line_lem ≡ worth (linked 8 false)) × (ask canonical_best_q in_line_lem ≡ tip (some (a in_line)) (linked 8 true)) × (ask best_q in_line_lem ≡ tip (some (b plain)) (linked 8 false))
unfolding everything
canonical_blocks = (refl, refl, refl, refl, refl, refl)

-- A canonical block is a live one with the canonical flag; the canonical count is their number: an orphaned one is not counted, one that is not linked is. Live count: all live.
abbrev flagged_dead : State
flagged_dead = calls (put 0 (genesis in_line) ∷ put 0 (a (flags true true)) ∷ put 0 (block 40 2 20 0 1 1 in_line) ∷ sync ∷ []) started

canonical_count_lem : (ask canonical_count_q flagged_dead ≡ counted 2) × (ask live_count_q flagged_dead ≡ counted 2) × (ask (canonical_linked_q 20) flagged_dead ≡ worth unlinked) × (ask (canonical_linked_q 40) flagged_dead ≡ worth unlinked)
unfolding everything
canonical_count_lem = (refl, refl, refl, refl)

-- ---- best and leaf ----

-- Best: greatest work, ..: A with 9 above the genesis goes before two blocks with 2 and 3.
best_by_work : ask best_q (calls (put 0 (genesis plain) ∷ put 0 (block 20 1 10 0 9 9 plain) ∷ put 0 (block 30 1 10 0 2 2 plain) ∷ put 0 (block 40 2 30 0 3 3 plain) ∷ sync ∷ []) started) ≡ tip (some (block 20 1 10 0 9 9 plain)) (linked 14 true)
unfolding everything
best_by_work = refl

-- .. then greater index, ..: with 5 the two blocks go before it.
best_by_index : ask best_q (calls (put 0 (genesis plain) ∷ put 0 (block 20 1 10 0 5 5 plain) ∷ put 0 (block 30 1 10 0 2 2 plain) ∷ put 0 (block 40 2 30 0 3 3 plain) ∷ sync ∷ []) started) ≡ tip (some (block 40 2 30 0 3 3 plain)) (linked 10 true)
unfolding everything
best_by_index = refl

-- Leaf: linked, and no linked block has it as parent: with both children ineligible the genesis is the leaf; a child orphaned is none.
leaf : (ask (leaves_q 1) (calls (answer 20 2 ∷ answer 30 2 ∷ sync ∷ []) held_all) ≡ listed (some (10 ∷ []))) × (ask (leaves_q 1) (calls (answer 20 2 ∷ sync ∷ []) held_all) ≡ listed (some (30 ∷ []))) × (ask (leaves_q 1) (with_genesis (a dead) (b dead)) ≡ listed (some (10 ∷ [])))
unfolding everything
leaf = (refl, refl, refl)

-- ---- answers ----

-- an ineligible answer for A before the first sync; its room is then freed by a removal and the next sync, and the new room knows no answer: none given counts as 1
abbrev without_a : State
without_a = calls (answer 20 2 ∷ sync ∷ []) held_all

abbrev regained : State
regained = calls (remove 0 20 ∷ sync ∷ put 1 (a plain) ∷ sync ∷ []) without_a

answers : (ask (linked_q 20) without_a ≡ worth unlinked) × (number (answer 20 0) without_a ≡ 11) × (number (answer 20 2) without_a ≡ 0) × (ask (linked_q 20) regained ≡ worth (linked 8 true)) × (number (answer 20 0) regained ≡ 0)
unfolding everything
answers = (refl, refl, refl, refl, refl)

-- that run is one of demand 3's: its ineligible answer is in time
in_run : Run without_a
unfolding calls
in_run = call sync (call (answer 20 2) (call (put 0 (b plain)) (call (put 0 (a plain)) (call (put 0 (genesis plain)) (start 5 5 1 0)))))

is_in_time : InTime in_run
unfolding everything in_run InTime new_of new_next new_after
is_in_time = (tt, ((λ two taken. refl), (tt, (tt, (tt, tt)))))

-- a load gives room as a put does: the answer for a loaded A before the first sync is in time, too
loaded_run : Run (calls (load 0 (genesis plain) ∷ load 0 (a plain) ∷ answer 20 2 ∷ sync ∷ []) started)
unfolding calls
loaded_run = call sync (call (answer 20 2) (call (load 0 (a plain)) (call (load 0 (genesis plain)) (start 5 5 1 0))))

loaded_in_time : InTime loaded_run
unfolding everything loaded_run InTime new_of new_next new_after
loaded_in_time = (tt, ((λ two taken. refl), (tt, (tt, tt))))

-- why the premise is there: an ineligible answer after the sync leaves a fresh tree with a value that 01's rules do not give
abbrev late : State
late = calls (answer 20 2 ∷ []) first_sync

premise : (late.fresh ≡ true) × (ask (linked_q 20) late ≡ worth (linked 8 true)) × (tree_reply late.holdings (from_nothing late.holdings) (linked_q 20) ≡ worth unlinked)
unfolding everything
premise = (refl, refl, refl)

-- .. and that answer is not in time
late_run : Run late
unfolding calls
late_run = call (answer 20 2) (call sync (call (put 0 (b plain)) (call (put 0 (a plain)) (call (put 0 (genesis plain)) (start 5 5 1 0)))))

too_late : InTime late_run → false ≡ true
unfolding everything late_run InTime new_of new_next new_after
too_late t = t.0 refl refl

-- after the sync no hash counts as given room, and A, which has it, is not given it anew by another put
put_again : Run (calls (put 1 (a plain) ∷ []) first_sync)
unfolding calls
put_again = call (put 1 (a plain)) (call sync (call (put 0 (b plain)) (call (put 0 (a plain)) (call (put 0 (genesis plain)) (start 5 5 1 0)))))

given_room : new_of put_again 20 ≡ false
unfolding everything put_again new_of new_next new_after
given_room = refl

-- ---- what a sync works out anew ----

-- Only these see a newer answer: a put of the genesis that changes nothing leaves A as it was; a put of A itself works it out.
seen_late : (ask (linked_q 20) (calls (put 0 (genesis plain) ∷ sync ∷ []) late) ≡ worth (linked 8 true)) × (ask (linked_q 20) (calls (put 0 (a plain) ∷ sync ∷ []) late) ≡ worth unlinked)
unfolding everything
seen_late = (refl, refl)

-- .. every live block whose previous hash names a block whose linked .. value changed: an orphaned genesis unlinks its children, and the genesis back links them.
abbrev cut : State
cut = calls (put 0 (genesis dead) ∷ sync ∷ []) first_sync

children : (ask (linked_q 20) cut ≡ worth unlinked) × (ask (linked_q 20) (calls (put 0 (genesis plain) ∷ sync ∷ []) cut) ≡ worth (linked 8 true))
unfolding everything
children = (refl, refl)

-- .. or canonical linked value changed: a genesis no longer canonical, live all the time, leaves its canonical child with no canonical linked value.
canonical_children : ask (canonical_linked_q 20) (calls (put 0 (genesis in_line) ∷ put 0 (a in_line) ∷ sync ∷ put 0 (genesis plain) ∷ sync ∷ []) started) ≡ worth unlinked
unfolding everything
canonical_children = refl

-- .. index 0 included: 40 stands at index 0 and names the genesis. Its late answer is seen when the genesis goes.
named_root : (ask (linked_q 40) (calls (answer 40 2 ∷ []) second_root) ≡ worth (linked 7 true)) × (ask (linked_q 40) (calls (answer 40 2 ∷ put 0 (genesis dead) ∷ sync ∷ []) second_root) ≡ worth unlinked)
unfolding everything
named_root = (refl, refl)

-- One named again is worked out again: 5 stands at index 0 and names A. Its turns are the first and the fourth of five, in a room of four.
named_again : ask (linked_q 30) (calls (load 0 (block 5 0 20 0 1 1 plain) ∷ load 0 (genesis plain) ∷ load 0 (a plain) ∷ load 0 (block 30 2 20 0 1 1 plain) ∷ sync ∷ []) (begin 4 4 1 0)) ≡ worth (linked 9 true)
unfolding everything
named_again = refl

-- A value changes with its work or with its proofs. What follows a block: live ones alone.
changing : (same (linked 8 true) (linked 8 true) ≡ true) × (same (linked 8 true) (linked 8 false) ≡ false) × (same (linked 8 true) (linked 9 true) ≡ false) × (same unlinked (linked 0 true) ≡ false)
changing = (refl, refl, refl, refl)

abbrev families : Holdings
families = (with_genesis (a dead) (b plain)).holdings

following : (follows (families.cells 0) (families.cells 1) ≡ false) × (follows (families.cells 0) (families.cells 2) ≡ true)
unfolding everything
following = (refl, refl)

-- Pending ones go by lowest index, then hash, a hash no longer live counting as index 0: the orphaned 50 of index 3, then A, then B, then 15 of index 2.
abbrev waiting : Copy → Holdings
waiting k = (calls (load 0 (block 15 2 20 0 1 1 plain) ∷ load 0 (b plain) ∷ load 0 (a plain) ∷ load 0 (block 50 3 15 0 1 1 k) ∷ []) (begin 4 4 1 0)).holdings

turn_order : (next (waiting dead) (λ p. true) ≡ some 3) × (next (waiting plain) (λ p. true) ≡ some 2) × (next (waiting plain) (λ p. false if eqb p 2 else true) ≡ some 1)
unfolding everything
turn_order = (refl, refl, refl)

-- A removal, too: the tree is stale until the next sync, which unlinks the children, then frees the room; the freed place is used again.
abbrev removed : State
removed = calls (remove 0 10 ∷ []) first_sync

removal : (ask_tree best_q removed ≡ 12) × (changes removed ≡ some (10 ∷ [])) × (ask (linked_q 30) (calls (sync ∷ []) removed) ≡ worth unlinked) × (place_of (calls (sync ∷ []) removed).holdings 10 ≡ none) × (ask (linked_q 30) (calls (sync ∷ put 2 (genesis plain) ∷ sync ∷ []) removed) ≡ worth (linked 8 false)) × (place_of (calls (sync ∷ put 2 (genesis plain) ∷ []) removed).holdings 10 ≡ some 0)
unfolding everything
removal = (refl, refl, refl, refl, refl, refl)
