-- Document 01 by small examples, all computed: "The two plans", sentence by sentence, and "Easy slips".
use Prim.Native.Nat.{ℕ}
use mathlib.Core.Path.{◌≡◌, refl}
use mathlib.Core.Bool.{true, false}
use mathlib.Core.Option.{Option, none, some}
use mathlib.Core.List.{List, [], ◌∷◌}
use lib.IntN.{ℤ}
use Rattle.model.specs.Lists.{those, only, all, any, front, find, last, total, each, put_in, sorted}
use Rattle.model.specs.Record.{Reason, off_spine, competing_fork, stale_fork, peer_work, peer_only, peer_tip, peer_hash, Copy, Block}
use Rattle.model.specs.Comparing.{unknown, covers, by_work, choose_verified}
use Rattle.model.specs.Walks.{cell_covers, cell_meets, cell_actual, down, walk, above}
use Rattle.model.specs.Writes.{promote, demote, orphan, changed, after_all, touched, copy_of, earlier, Entry, entries}
use Rattle.model.specs.Select.{off, held_back, goes_on, select_at, select_from, select}
use Rattle.model.specs.Adopt.{leaves_of, our_side, is_stale, refusal, acceptance, decided, judge_safe, judge_above, judge, search_leaves, adopt_from, adopt}
use Rattle.model.specs.Numbers.{State, put, answer, sync, begin, step}
use Rattle.model.specs.Plans.{PlanReply, scanned, applied, select_c, adopt_c, asked, plan_reply, ask_plan}
use Rattle.model.proofs.Cases.{calls, everything, plain, in_line, dead, block, genesis, a, b}

-- the blocks put into active, one after another
unfoldable puts : List Block → State → State
puts [] s = s
puts (x ∷ l) s = puts l (step (put 0 x) s)

-- to unfold this is to unfold all that a plan computes with
unfoldable pub plans : ℕ
unfolding everything puts covers by_work choose_verified those only all any front find last total each put_in sorted cell_covers cell_meets cell_actual down walk above changed after_all touched copy_of earlier entries off held_back goes_on select_at select_from select leaves_of our_side refusal acceptance decided judge_safe judge_above judge search_leaves adopt_from adopt
plans = 0

-- ---- blocks, states, entries ----

-- the canonical genesis and these blocks, synced, in a room of six
abbrev tree : List Block → State
tree l = step sync (puts (genesis in_line ∷ l) (begin 6 6 1 0))

abbrev entry : ℕ → Copy → Entry
entry hash k = record { hash = hash; copy = k }

-- a copy as promote, demote and orphan leave it, where none of the optional three was set before
abbrev promoted : Copy
promoted = in_line

abbrev demoted : Reason → Copy
demoted r = record { orphaned = false; canonical = false; time = none; reason = some r; competing = none }

abbrev orphaned : ℤ → Reason → Option ℕ → Copy
orphaned clock r x = record { orphaned = true; canonical = false; time = some clock; reason = some r; competing = x }

-- children of the genesis: 20 as A but missing its target; 30 heavier than A, and heavier still but missing its target; 50 lighter than A
abbrev a_missing : Copy → Block
a_missing k = block 20 1 10 0 3 4 k

abbrev heavier : Copy → Block
heavier k = block 30 1 10 0 4 4 k

abbrev heavier_missing : Copy → Block
heavier_missing k = block 30 1 10 0 9 10 k

abbrev lighter : Copy → Block
lighter k = block 50 1 10 0 1 1 k

-- grandchildren: on A, and on 30
abbrev on_a : Copy → Block
on_a k = block 40 2 20 0 9 9 k

abbrev on_a_missing : Copy → Block
on_a_missing k = block 40 2 20 0 9 10 k

abbrev on_30 : Copy → Block
on_30 k = block 40 2 30 0 9 9 k

-- ---- promote, demote, orphan ----

module _ (t : ℤ) (clock : ℤ) where
  -- a copy with all five set
  abbrev full_copy : Copy
  full_copy = record { orphaned = true; canonical = true; time = some t; reason = some stale_fork; competing = some 9 }

  -- Promote sets canonical, clears orphaned and reason, and keeps orphaned time and competing hash. Demote clears both flags and sets the reason. Orphan sets all five.
  copies : (changed promote full_copy ≡ record { orphaned = false; canonical = true; time = some t; reason = none; competing = some 9 })
      × (changed (demote off_spine) full_copy ≡ record { orphaned = false; canonical = false; time = some t; reason = some off_spine; competing = some 9 })
      × (changed (orphan clock peer_hash none) full_copy ≡ orphaned clock peer_hash none)
  unfolding changed
  copies = (refl, refl, refl)

module _ (clock : ℤ) where
  -- the two plans with 10 blocks per epoch
  abbrev selected : Option ℕ → State → PlanReply
  selected floor s = plan_reply (select_c floor 10 clock 6) s

  abbrev adopted : Option ℕ → State → PlanReply
  adopted floor s = plan_reply (adopt_c floor 10 clock 6) s

  -- ---- Select ----

  -- Scan exactly if there is no best (an ineligible genesis), no canonical best, or no common ancestor (two roots, the other one heavier).
  scans : (selected none (calls (put 0 (genesis in_line) ∷ answer 10 2 ∷ sync ∷ []) (begin 6 6 1 0)) ≡ scanned) × (selected none (tree (genesis plain ∷ [])) ≡ scanned) × (selected none (tree (block 50 0 0 0 9 9 plain ∷ [])) ≡ scanned)
  unfolding plans
  scans = (refl, refl, refl)

  -- Stop if best is local and none is aside.
  best_is_local : (selected none (tree []) ≡ applied 0 []) × (selected none (tree (a in_line ∷ lighter plain ∷ [])) ≡ applied 0 [])
  unfolding plans
  best_is_local = (refl, refl)

  -- Canonical blocks off the local walk are demoted ("Off the verified spine") above the floor or with no floor, and kept aside at or below it. `changed` is 1 if something was demoted, else 0.
  off_the_walk : (selected none (tree (a in_line ∷ b in_line ∷ lighter in_line ∷ [])) ≡ applied 1 (entry 30 (demoted off_spine) ∷ entry 50 (demoted off_spine) ∷ []))
      × (selected (some 0) (tree (a in_line ∷ lighter in_line ∷ [])) ≡ applied 1 (entry 50 (demoted off_spine) ∷ []))
      × (selected (some 1) (tree (a in_line ∷ lighter in_line ∷ [])) ≡ applied 0 [])
  unfolding plans
  off_the_walk = (refl, refl, refl)

  -- Promote best's walk above the fork, and demote as "Competing fork" local's walk above it. `changed` is 1 after such a switch. The fork is the highest common block: A stays as it is.
  switches : (selected none (tree (a in_line ∷ heavier plain ∷ [])) ≡ applied 1 (entry 20 (demoted competing_fork) ∷ entry 30 promoted ∷ []))
      × (selected none (tree (a in_line ∷ block 40 2 20 0 1 1 in_line ∷ block 50 2 20 0 2 2 plain ∷ [])) ≡ applied 1 (entry 40 (demoted competing_fork) ∷ entry 50 promoted ∷ []))
  unfolding plans
  switches = (refl, refl)

  -- .. 1 after a switch that promotes nothing, too: A, ineligible and missing its target, is local; best is the genesis.
  nothing_promoted : selected none (calls (put 0 (genesis in_line) ∷ put 0 (a_missing in_line) ∷ answer 20 2 ∷ sync ∷ []) (begin 6 6 1 0)) ≡ applied 1 (entry 20 (demoted competing_fork) ∷ [])
  unfolding plans
  nothing_promoted = refl

  -- If local's proofs are ok, stop when a floor is given and .. the fork is below both floor and local: not with the fork at the floor, not with local as the fork, not with proofs missing.
  select_floor : (selected (some 1) (tree (a in_line ∷ heavier plain ∷ [])) ≡ applied 0 [])
      × (selected (some 0) (tree (a in_line ∷ heavier plain ∷ [])) ≡ applied 1 (entry 20 (demoted competing_fork) ∷ entry 30 promoted ∷ []))
      × (selected (some 5) (tree (a plain ∷ [])) ≡ applied 1 (entry 20 promoted ∷ []))
      × (selected (some 1) (tree (a_missing in_line ∷ heavier plain ∷ [])) ≡ applied 1 (entry 20 (demoted competing_fork) ∷ entry 30 promoted ∷ []))
  unfolding plans
  select_floor = (refl, refl, refl, refl)

  -- .. or a block aside is off best's walk: best is above local, 50 is canonical beside it, at the floor. With no floor it is demoted instead.
  select_aside : (selected (some 1) (tree (a in_line ∷ lighter in_line ∷ on_a plain ∷ [])) ≡ applied 0 [])
      × (selected none (tree (a in_line ∷ lighter in_line ∷ on_a plain ∷ [])) ≡ applied 1 (entry 50 (demoted off_spine) ∷ entry 40 promoted ∷ []))
  unfolding plans
  select_aside = (refl, refl)

  -- .. and also, floor or not, when local covers and best doesn't (epoch 9 at index 1): not if neither covers, not if local's proofs are not ok.
  select_covers : (selected none (tree (a in_line ∷ block 30 1 10 9 4 4 plain ∷ [])) ≡ applied 0 [])
      × (selected none (tree (block 20 1 10 9 3 3 in_line ∷ block 30 1 10 9 4 4 plain ∷ [])) ≡ applied 1 (entry 20 (demoted competing_fork) ∷ entry 30 promoted ∷ []))
      × (selected none (tree (a_missing in_line ∷ block 30 1 10 9 4 4 plain ∷ [])) ≡ applied 1 (entry 20 (demoted competing_fork) ∷ entry 30 promoted ∷ []))
  unfolding plans
  select_covers = (refl, refl, refl)

  -- Compare, a side known exactly if its proofs are ok: the heavier one that misses its target is not adopted.
  select_known : selected none (tree (a in_line ∷ heavier_missing plain ∷ [])) ≡ applied 0 []
  unfolding plans
  select_known = refl

  -- Local's side is its canonical linked value: A, ineligible and so not linked, has work 8 in line and stays over 50 with 6.
  local_unlinked : selected none (calls (put 0 (genesis in_line) ∷ put 0 (a in_line) ∷ put 0 (lighter plain) ∷ answer 20 2 ∷ sync ∷ []) (begin 6 6 1 0)) ≡ applied 0 []
  unfolding plans
  local_unlinked = refl

  -- Stop unless best is adopted, or the fork is local and all aside are on best's walk: best misses its target above local. Then 50 is aside and off its walk (A misses its target, so that no floor holds it back).
  above_local : (selected none (tree (a in_line ∷ on_a_missing plain ∷ [])) ≡ applied 1 (entry 40 promoted ∷ []))
      × (selected none (tree (a in_line ∷ lighter in_line ∷ on_a_missing plain ∷ [])) ≡ applied 1 (entry 50 (demoted off_spine) ∷ entry 40 promoted ∷ []))
      × (selected (some 1) (tree (a_missing in_line ∷ lighter in_line ∷ on_a_missing plain ∷ [])) ≡ applied 0 [])
      × (selected (some 1) (tree (a_missing in_line ∷ lighter in_line ∷ [])) ≡ applied 0 [])
  unfolding plans
  above_local = (refl, refl, refl, refl)

  -- .. promote best's walk above the fork where not canonical by now: 30, off the local walk, was demoted just before; kept aside under the floor it is canonical still, and has no entry.
  -- .. and those aside that are off best's walk are demoted as "Competing fork": 50. Entries go by index, then hash.
  by_now : (selected none (tree (block 20 1 10 0 4 4 in_line ∷ block 30 1 10 0 3 3 in_line ∷ lighter in_line ∷ on_30 plain ∷ [])) ≡ applied 1 (entry 20 (demoted competing_fork) ∷ entry 30 promoted ∷ entry 50 (demoted off_spine) ∷ entry 40 promoted ∷ []))
      × (selected (some 1) (tree (block 20 1 10 0 4 5 in_line ∷ block 30 1 10 0 3 3 in_line ∷ lighter in_line ∷ on_30 plain ∷ [])) ≡ applied 1 (entry 20 (demoted competing_fork) ∷ entry 50 (demoted competing_fork) ∷ entry 40 promoted ∷ []))
  unfolding plans
  by_now = (refl, refl)

  -- ---- Adopt ----

  -- Scan exactly if there is no canonical best or the canonical count is not local index + 1.
  adopt_scans_lem : (adopted none (tree (genesis plain ∷ [])) ≡ scanned) × (adopted none (tree (a in_line ∷ lighter in_line ∷ [])) ≡ scanned) × (adopted none (tree (a in_line ∷ [])) ≡ applied 0 [])
  unfolding plans
  adopt_scans_lem = (refl, refl, refl)

  -- Leaves go by work, index (both falling), hash (rising), and the first accepted one ends it: A alone, then 30 alone, then 30 with 40, then A alone.
  leaf_order : (adopted none (tree (a plain ∷ b plain ∷ [])) ≡ applied 1 (entry 20 promoted ∷ []))
      × (adopted none (tree (a plain ∷ heavier plain ∷ [])) ≡ applied 1 (entry 30 promoted ∷ []))
      × (adopted none (tree (block 20 1 10 0 5 5 plain ∷ block 30 1 10 0 2 2 plain ∷ block 40 2 30 0 3 3 plain ∷ [])) ≡ applied 2 (entry 30 promoted ∷ entry 40 promoted ∷ []))
      × (adopted none (tree (block 30 1 10 0 3 3 plain ∷ a plain ∷ [])) ≡ applied 1 (entry 20 promoted ∷ []))
  unfolding plans
  leaf_order = (refl, refl, refl, refl)

  -- From a noncanonical leaf, follow parents until the first canonical block; with none, pass on: another root stays as it is, with n = 0 too.
  other_root : (adopted none (tree (block 50 0 0 0 9 9 plain ∷ [])) ≡ applied 0 []) × (plan_reply (adopt_c none 0 clock 6) (tree (block 50 0 0 0 9 9 plain ∷ [])) ≡ applied 0 [])
  unfolding plans
  other_root = (refl, refl)

  -- The safe front of that extension is all of it unless local covers; then the longest front whose every block covers. 40 is of epoch 9. `changed` is the safe length.
  safe_front_lem : (adopted none (tree (a in_line ∷ heavier plain ∷ block 40 2 30 9 4 4 plain ∷ [])) ≡ applied 1 (entry 20 (orphaned clock (peer_work 4 3) (some 30)) ∷ entry 30 promoted ∷ []))
      × (adopted none (tree (block 20 1 10 9 3 3 in_line ∷ heavier plain ∷ block 40 2 30 9 4 4 plain ∷ [])) ≡ applied 2 (entry 20 (orphaned clock (peer_work 8 3) (some 30)) ∷ entry 30 promoted ∷ entry 40 promoted ∷ []))
  unfolding plans
  safe_front_lem = (refl, refl)

  -- It is refused if a floor is given, local's proofs are ok and the ancestor is below both floor and local: not with the ancestor at the floor, not with local as the ancestor, not with proofs missing.
  adopt_floor : (adopted (some 1) (tree (a in_line ∷ heavier plain ∷ [])) ≡ applied 0 [])
      × (adopted (some 0) (tree (a in_line ∷ heavier plain ∷ [])) ≡ applied 1 (entry 20 (orphaned clock (peer_work 4 3) (some 30)) ∷ entry 30 promoted ∷ []))
      × (adopted (some 5) (tree (a plain ∷ [])) ≡ applied 1 (entry 20 promoted ∷ []))
      × (adopted (some 1) (tree (a_missing in_line ∷ heavier plain ∷ [])) ≡ applied 1 (entry 20 (orphaned clock (peer_only 4) (some 30)) ∷ entry 30 promoted ∷ []))
  unfolding plans
  adopt_floor = (refl, refl, refl, refl)

  -- Ours runs up the local walk until a block misses its target, the last one before that being its tip: work 3, index 1, hash 20. The safe block of equal index is the competing hash, if any.
  our_work : adopted none (tree (a in_line ∷ block 25 2 20 0 9 10 in_line ∷ block 15 1 10 0 3 3 plain ∷ [])) ≡ applied 1 (entry 15 promoted ∷ entry 20 (orphaned clock peer_hash (some 15)) ∷ entry 25 (orphaned clock peer_hash none) ∷ [])
  unfolding plans
  our_work = refl

  -- (none: unknown, with local's tip)
  our_unknown : (adopted none (tree (a_missing in_line ∷ block 30 1 10 0 2 2 plain ∷ [])) ≡ applied 1 (entry 20 (orphaned clock (peer_only 2) (some 30)) ∷ entry 30 promoted ∷ [])) × (our_side (asked (tree (a_missing in_line ∷ [])) none 10 clock) 1 [] ≡ record { work = unknown; index = 1; hash = 20 })
  unfolding plans
  our_unknown = (refl, refl)

  -- .. the peer's is the safe front's, its tip the front's last block, unknown if any block in it misses.
  peer_work_lem : (adopted none (tree (a in_line ∷ heavier_missing plain ∷ [])) ≡ applied 0 [])
      × (adopted none (tree (block 20 1 10 0 5 5 in_line ∷ block 30 1 10 0 2 2 plain ∷ block 40 2 30 0 3 3 plain ∷ [])) ≡ applied 2 (entry 20 (orphaned clock (peer_tip 2 1) (some 30)) ∷ entry 30 promoted ∷ entry 40 promoted ∷ []))
  unfolding plans
  peer_work_lem = (refl, refl)

  -- Both tips are the last blocks: of equal work and index 35 goes before 40, though 50 stands below the one and 30 below the other.
  tips_compared : adopted none (tree (block 30 1 10 0 3 3 in_line ∷ block 40 2 30 0 3 3 in_line ∷ block 50 1 10 0 3 3 plain ∷ block 35 2 50 0 3 3 plain ∷ [])) ≡ applied 2
      (entry 30 (orphaned clock peer_hash (some 50)) ∷ entry 50 promoted ∷ entry 35 promoted ∷ entry 40 (orphaned clock peer_hash (some 35)) ∷ [])
  unfolding plans
  tips_compared = refl

  -- Accepted exactly when the peer is adopted: of equal work and index, with the higher hash, it isn't.
  peer_kept : adopted none (tree (a in_line ∷ block 30 1 10 0 3 3 plain ∷ [])) ≡ applied 0 []
  unfolding plans
  peer_kept = refl

  -- n = 10, local index 25: bottom 5 stale, 6 not. Bottom + 2 × n saturates.
  staleness : (is_stale 10 5 25 ≡ true) × (is_stale 10 6 25 ≡ false) × (is_stale 18446744073709551615 1 18446744073709551614 ≡ false) × (is_stale 18446744073709551615 1 18446744073709551615 ≡ true)
  staleness = (refl, refl, refl, refl)

  -- three canonical blocks above the genesis, and two others from index 1 on, one of epoch 0 and one of this epoch
  abbrev forked : ℕ → State
  forked epoch = tree (a in_line ∷ block 30 2 20 0 3 3 in_line ∷ block 40 3 30 0 3 3 in_line ∷ lighter plain ∷ block 60 2 50 epoch 1 1 plain ∷ [])

  -- A refused extension whose bottom + 2 × n ≤ local index is orphaned whole as stale, with no competing hash, past its safe front too (epoch 9 at index 2); with n = 2 it is not stale.
  stale_forks : (plan_reply (adopt_c none 1 clock 6) (forked 9) ≡ applied 0 (entry 50 (orphaned clock stale_fork none) ∷ entry 60 (orphaned clock stale_fork none) ∷ []))
      × (plan_reply (adopt_c none 2 clock 6) (forked 9) ≡ applied 0 [])
  unfolding plans
  stale_forks = (refl, refl)

  -- .. and one refused by the floor as well.
  stale_floor : plan_reply (adopt_c (some 1) 0 clock 6) (tree (a in_line ∷ heavier plain ∷ [])) ≡ applied 0 (entry 30 (orphaned clock stale_fork none) ∷ [])
  unfolding plans
  stale_floor = refl

  -- Easy slip: orphaning a stale fork whose safe front is empty. Its first block is of epoch 9, and it is passed on.
  empty_front : plan_reply (adopt_c none 1 clock 6) (tree (a in_line ∷ block 30 2 20 0 3 3 in_line ∷ block 40 3 30 0 3 3 in_line ∷ block 50 1 10 9 1 1 plain ∷ [])) ≡ applied 0 []
  unfolding plans
  empty_front = refl

  -- The search goes on after a refusal; later changes to one block build on earlier ones. 30 and 40, which misses its target, are orphaned as stale; then 50, the other child of 30, is adopted:
  -- 30 is promoted, and (easy slip) its orphaned time stays.
  over_stale : plan_reply (adopt_c none 0 clock 6) (tree (a in_line ∷ heavier plain ∷ block 40 2 30 0 9 10 plain ∷ block 50 2 30 0 2 2 plain ∷ [])) ≡ applied 2
      (entry 20 (orphaned clock (peer_work 6 3) (some 30))
      ∷ entry 30 (record { orphaned = false; canonical = true; time = some clock; reason = none; competing = none })
      ∷ entry 40 (orphaned clock stale_fork none)
      ∷ entry 50 promoted ∷ [])
  unfolding plans
  over_stale = refl

  -- ---- numbers ----

  -- 13 LIST: plans need the live count (two of three blocks), scan or not; 12 STALE comes before it.
  abbrev two_live : State
  two_live = tree (a plain ∷ b dead ∷ [])

  lent_lists : (ask_plan (select_c none 10 clock 1) two_live ≡ 13) × (ask_plan (select_c none 10 clock 2) two_live ≡ 0) × (ask_plan (adopt_c none 10 clock 1) two_live ≡ 13) × (ask_plan (adopt_c none 10 clock 0) (tree (genesis plain ∷ [])) ≡ 13) × (ask_plan (adopt_c none 10 clock 0) (step (put 0 (a plain)) two_live) ≡ 12)
  unfolding plans
  lent_lists = (refl, refl, refl, refl, refl)
