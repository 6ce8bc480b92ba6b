-- Document 01 by small examples, all computed: "Numbers given back".
use Prim.Native.Nat.{ℕ, ◌+◌}
use mathlib.Core.Path.{◌≡◌, refl}
use mathlib.Core.Option.{none, some}
use mathlib.Core.List.{[], ◌∷◌}
use Rattle.model.specs.Record.{Block}
use Rattle.model.specs.Questions.{node, linked_q, best_q, leaves_q, effective_q, effective_count_q, generation_q, version_q, changes_q, shown, worth, counted, holdings_reply}
use Rattle.model.specs.Standing.{unlinked}
use Rattle.model.specs.Numbers.{State, load, put, remove, answer, reload, begin, start_number, max_word, number, ask_tree, ask_holdings}
use Rattle.model.proofs.Cases.{calls, everything, plain, dead, block, genesis, a, started, held_all, first_sync, ask}

-- ---- 1 ROOM ----

-- hash room not 1 to 32,768, journal not 1 to 200,000, or memory shorter than these two need: here a word for each
abbrev needs : ℕ → ℕ → ℕ
needs room journal_room = room + journal_room

starts : (start_number needs 232768 0 1 ≡ 1) × (start_number needs 232768 1 1 ≡ 0) × (start_number needs 232768 32768 200000 ≡ 0) × (start_number needs 232769 32769 200000 ≡ 1) × (start_number needs 232769 32768 200001 ≡ 1) × (start_number needs 232768 1 0 ≡ 1) × (start_number needs 232767 32768 200000 ≡ 1)
starts = (refl, refl, refl, refl, refl, refl, refl)

-- ---- each number, on either side ----

-- 2 KIND: store not 0, 1, 2
kinds : (number (put 2 (a plain)) held_all ≡ 0) × (number (put 3 (a plain)) held_all ≡ 2) × (number (load 2 (a plain)) started ≡ 0) × (number (load 3 (a plain)) started ≡ 2) × (number (remove 2 20) held_all ≡ 0) × (number (remove 3 20) held_all ≡ 2)
unfolding everything
kinds = (refl, refl, refl, refl, refl, refl)

-- 3 INDEX: index is 2^64 - 1
abbrev at_index_lem : ℕ → Block
at_index_lem index = block 40 index 10 0 1 1 plain

indexes : (number (put 0 (at_index_lem 18446744073709551614)) held_all ≡ 0) × (number (put 0 (at_index_lem 18446744073709551615)) held_all ≡ 3) × (number (load 0 (at_index_lem 18446744073709551615)) started ≡ 3)
unfolding everything
indexes = (refl, refl, refl)

-- 5 FULL: hash has no room and all room is taken: a hash that has room is taken on.
abbrev packed : State
packed = calls (load 0 (genesis plain) ∷ []) (begin 1 4 1 18446744073709551615)

fullness : (number (load 0 (a plain)) packed ≡ 5) × (number (load 1 (genesis dead)) packed ≡ 0) × (number (put 0 (a plain)) (calls (put 0 (genesis plain) ∷ []) (begin 1 4 1 0)) ≡ 5) × (number (put 0 (a plain)) (calls (put 0 (genesis plain) ∷ []) (begin 2 4 1 0)) ≡ 0)
unfolding everything
fullness = (refl, refl, refl, refl)

-- 6 VERSION: a touch is due at version 2^64 - 1; the removal of an absent copy makes none
last_versions : (number (put 0 (genesis dead)) packed ≡ 6) × (number (remove 0 10) packed ≡ 6) × (number (remove 1 10) packed ≡ 0) × (number (put 0 (genesis plain)) (begin 1 4 1 18446744073709551614) ≡ 0)
unfolding everything
last_versions = (refl, refl, refl, refl)

-- 8 GENERATION: reload not above the present generation
generations : (number (reload 0 0) held_all ≡ 8) × (number (reload 1 9) held_all ≡ 8) × (number (reload 2 0) held_all ≡ 0)
unfolding everything
generations = (refl, refl, refl)

-- 9 UNKNOWN: answer for a hash without room. 10 VALUE: answer not 0, 1, 2. 11 FINAL: another answer where 0 or 2 is held; the same one again is taken.
answering : (number (answer 40 0) held_all ≡ 9) × (number (answer 20 3) held_all ≡ 10) × (number (answer 20 2) held_all ≡ 0) × (number (answer 20 1) (calls (answer 20 0 ∷ []) held_all) ≡ 11) × (number (answer 20 2) (calls (answer 20 0 ∷ []) held_all) ≡ 11) × (number (answer 20 0) (calls (answer 20 0 ∷ []) held_all) ≡ 0) × (number (answer 20 2) (calls (answer 20 1 ∷ []) held_all) ≡ 0) × (number (answer 20 1) (calls (answer 20 2 ∷ []) held_all) ≡ 11) × (number (answer 20 0) (calls (answer 20 2 ∷ []) held_all) ≡ 11) × (number (answer 20 2) (calls (answer 20 2 ∷ []) held_all) ≡ 0)
unfolding everything
answering = (refl, refl, refl, refl, refl, refl, refl, refl, refl, refl)

-- 12 STALE: no sync since the last accepted start, reload, load, put or effective removal. An answer, a refused call and the removal of an absent copy leave the tree fresh.
staleness : (ask_tree best_q started ≡ 12) × (ask_tree best_q first_sync ≡ 0) × (ask_tree best_q (calls (put 0 (a plain) ∷ []) first_sync) ≡ 12) × (ask_tree best_q (calls (remove 0 20 ∷ []) first_sync) ≡ 12) × (ask_tree best_q (calls (reload 2 0 ∷ []) first_sync) ≡ 12) × (ask_tree best_q (calls (load 0 (a plain) ∷ []) started) ≡ 12) × (ask_tree best_q (calls (answer 20 2 ∷ put 3 (a plain) ∷ remove 1 20 ∷ []) first_sync) ≡ 0)
unfolding everything
staleness = (refl, refl, refl, refl, refl, refl, refl)

-- 13 LIST: lent list too short: leaves and changes need what they hold. None to be had needs nothing.
lent_lists : (ask_tree (leaves_q 2) first_sync ≡ 0) × (ask_tree (leaves_q 1) first_sync ≡ 13) × (ask_holdings (changes_q 1 0 3) first_sync ≡ 0) × (ask_holdings (changes_q 1 0 2) first_sync ≡ 13) × (ask_holdings (changes_q 2 0 0) first_sync ≡ 0)
unfolding everything
lent_lists = (refl, refl, refl, refl, refl)

-- ---- order ----

-- Order: load 7, 2, 3, 4, 5: two at once, and the first of them is given. (4 and 5 never meet: one has room, the other has none.)
load_order : (number (load 3 (a plain)) held_all ≡ 7) × (number (load 3 (at_index_lem max_word)) started ≡ 2) × (number (load 0 (block 10 max_word 0 0 5 5 plain)) packed ≡ 3) × (number (load 0 (at_index_lem max_word)) packed ≡ 3) × (number (load 0 (block 10 0 0 9 5 5 plain)) packed ≡ 4)
unfolding everything
load_order = (refl, refl, refl, refl, refl)

-- .. put 2, 3, 4, 5, 6
put_order : (number (put 3 (at_index_lem max_word)) held_all ≡ 2) × (number (put 0 (block 10 max_word 0 0 5 5 plain)) held_all ≡ 3) × (number (put 0 (at_index_lem max_word)) packed ≡ 3) × (number (put 0 (block 10 0 0 9 5 5 plain)) packed ≡ 4) × (number (put 0 (a plain)) packed ≡ 5)
unfolding everything
put_order = (refl, refl, refl, refl, refl)

-- .. removal 2, 6
removal_order : number (remove 3 10) (calls (load 2 (genesis plain) ∷ []) packed) ≡ 2
unfolding everything
removal_order = refl

-- .. answer 10, 9, 11
answer_order : (number (answer 40 3) held_all ≡ 10) × (number (answer 20 3) (calls (answer 20 0 ∷ []) held_all) ≡ 10)
unfolding everything
answer_order = (refl, refl)

-- .. questions and plans 12, 13
question_order : ask_tree (leaves_q 0) (calls (put 0 (a plain) ∷ []) first_sync) ≡ 12
unfolding everything
question_order = refl

-- ---- refusals and questions ----

-- A refusal carries its number only; state stays unchanged: a put into store 3.
unchanged : (holdings_reply (calls (put 3 (a dead) ∷ []) first_sync).holdings (effective_q 20) ≡ shown (some (a plain))) × (holdings_reply (calls (put 3 (a dead) ∷ []) first_sync).holdings version_q ≡ counted 3)
unfolding everything
unchanged = (refl, refl)

-- Effective record, effective count, generation, version and changes ask the holdings and never meet 12.
never_stale : (ask_holdings (effective_q 20) held_all ≡ 0) × (ask_holdings effective_count_q held_all ≡ 0) × (ask_holdings generation_q held_all ≡ 0) × (ask_holdings version_q held_all ≡ 0) × (ask_holdings (changes_q 1 0 3) held_all ≡ 0)
unfolding everything
never_stale = (refl, refl, refl, refl, refl)

-- A question with no block to show answers "none" with 0.
none-shown : (ask_tree (node 40) first_sync ≡ 0) × (ask (node 40) first_sync ≡ shown none) × (ask_tree (linked_q 40) first_sync ≡ 0) × (ask (linked_q 40) first_sync ≡ worth unlinked) × (holdings_reply first_sync.holdings (effective_q 40) ≡ shown none)
unfolding everything
none-shown = (refl, refl, refl, refl, refl)
