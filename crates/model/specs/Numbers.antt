-- Document 01, "Numbers given back": the number of each call, the refusals in 01's order, and the state after it.
use Rattle.std.specs.Prelude.{ℕ, ◌+◌, ◌*◌, ◌≤◌, Bool, true, false, not, ◌&&◌, List, eqb, ltb, leb}
use Rattle.std.proofs.Math.Option.{Option, none, some}
use Rattle.amount.specs.Choose.{◌if◌else◌}
use Rattle.model.specs.Places.{is_some}
use Rattle.model.specs.Record.{Block, same_header}
use Rattle.model.specs.Holding.{Answer, eligible, for_now, ineligible, answer_of, Cell, free, held, Holdings, store_of, place_of, free_place, test_at, keep, drop, has_copy, take_answer, touch, release, empty, changes_since}
use Rattle.model.specs.Standing.{Values, unlinked}
use Rattle.model.specs.Relink.{relinked}
use Rattle.model.specs.Questions.{TreeQuestion, HoldingsQuestion, tree_reply, holdings_reply, too_short, tree_lent, holdings_lent}

-- a generation and a version of it
pub record Point : Type 0 where
  pub generation : ℕ
  pub version : ℕ

-- what the calls keep: the holdings, the tree's values by place, where the last sync stood, and whether that covers the present
pub record State : Type 0 where
  pub holdings : Holdings
  pub values : Values
  pub synced : Option Point
  pub fresh : Bool  -- a sync came after the last accepted start, reload, load, put or effective removal

pub data Call : Type 0 where
  load put : ℕ → Block → Call
  remove : ℕ → ℕ → Call
  answer : ℕ → ℕ → Call
  reload : ℕ → ℕ → Call
  sync : Call

-- ---- start ----

-- hash room 1 to 32,768, journal 1 to 200,000
abbrev pub hash_limit : ℕ
hash_limit = 32768

abbrev pub journal_limit : ℕ
journal_limit = 200000

-- 1 ROOM: hash room not 1 to 32,768, journal not 1 to 200,000, or memory shorter than these two need by one formula. The memory, and `need`,
-- which is that formula (docs/MEMORY.md), are counted in words of eight bytes.
abbrev pub start_number : (ℕ → ℕ → ℕ) → ℕ → ℕ → ℕ → ℕ
start_number need memory room journal_room = 0 if leb 1 room && leb room hash_limit && leb 1 journal_room && leb journal_room journal_limit && leb (need room journal_room) memory else 1

-- .. of at most 1,024 bytes a hash, 64 a journal entry, and 4,096.
abbrev pub Modest : (ℕ → ℕ → ℕ) → Type 0
Modest need = (room journal_room : ℕ) → 8 * need room journal_room ≤ 1024 * room + 64 * journal_room + 4096

abbrev pub begin : ℕ → ℕ → ℕ → ℕ → State
begin room journal_room generation version = record { holdings = empty room journal_room generation version; values = λ w p. unlinked; synced = none; fresh = false }

-- a start on what was there before: a refusal leaves it
abbrev pub started : ℕ → State → State → State
started number before after = after if eqb number 0 else before

-- ---- when a call is refused ----

-- 2^64 - 1
abbrev pub max_word : ℕ
max_word = 18446744073709551615

-- 4 HEADER: hash has room under another header.
abbrev pub cell_differs : Block → Cell → Bool
cell_differs b free = false
cell_differs b (held c) = not (same_header c.header b.header)

abbrev pub other_header : Holdings → Block → Bool
other_header h b = test_at (place_of h b.header.hash) (cell_differs b) h.cells

-- 5 FULL: hash has no room and all room is taken.
abbrev pub full : Holdings → Block → Bool
full h b = not (is_some (place_of h b.header.hash)) && not (is_some (free_place h))

-- 11 FINAL: another answer where 0 or 2 is held.
abbrev pub clashes : ℕ → Answer → Bool
clashes a eligible = not (eqb a 0)
clashes a for_now = false
clashes a ineligible = not (eqb a 2)

abbrev pub cell_final : ℕ → Cell → Bool
cell_final a free = false
cell_final a (held c) = clashes a c.answer

abbrev pub is_final : Holdings → ℕ → ℕ → Bool
is_final h x a = test_at (place_of h x) (cell_final a) h.cells

-- Order: load 7, 2, 3, 4, 5; put 2, 3, 4, 5, 6; removal 2, 6; answer 10, 9, 11. Sync is never refused.
unfoldable pub number : Call → State → ℕ
number (load k b) s =
    7 if not s.holdings.loading else
    2 if ltb 2 k else
    3 if eqb b.header.index max_word else
    4 if other_header s.holdings b else
    5 if full s.holdings b else 0
number (put k b) s =
    2 if ltb 2 k else
    3 if eqb b.header.index max_word else
    4 if other_header s.holdings b else
    5 if full s.holdings b else
    6 if eqb s.holdings.version max_word else 0
number (remove k x) s =
    2 if ltb 2 k else
    6 if has_copy (store_of k) x s.holdings && eqb s.holdings.version max_word else 0
number (answer x a) s =
    10 if ltb 2 a else
    9 if not (is_some (place_of s.holdings x)) else
    11 if is_final s.holdings x a else 0
number (reload g v) s = 8 if not (ltb s.holdings.generation g) else 0
number sync s = 0

-- ---- what an accepted call does ----

-- the tree no longer stands for the holdings
abbrev pub stale : State → Holdings → State
stale s h = record { holdings = h; values = s.values; synced = s.synced; fresh = false }

-- the changes since the last sync. "None to be had" makes sync rebuild; so does the first sync after start
abbrev pub changes_from : Holdings → Option Point → Option (List ℕ)
changes_from h none = none
changes_from h (some at) = changes_since h at.generation at.version

abbrev pub changes : State → Option (List ℕ)
changes s = changes_from s.holdings s.synced

unfoldable pub effect : Call → State → State
effect (load k b) s = stale s (keep (store_of k) b s.holdings)
effect (put k b) s = stale s (touch b.header.hash (keep (store_of k) b s.holdings))
effect (remove k x) s = stale s (touch x (drop (store_of k) x s.holdings)) if has_copy (store_of k) x s.holdings else s
effect (answer x a) s = record { holdings = take_answer x (answer_of a) s.holdings; values = s.values; synced = s.synced; fresh = s.fresh }
effect (reload g v) s = record { holdings = empty s.holdings.room s.holdings.journal_room g v; values = λ w p. unlinked; synced = s.synced; fresh = false }
effect sync s = record { holdings = release s.holdings; values = relinked s.holdings s.values (changes s); synced = some (record { generation = s.holdings.generation; version = s.holdings.version }); fresh = true }

-- A refusal carries its number only; state stays unchanged.
unfoldable pub step : Call → State → State
step c s = effect c s if eqb (number c s) 0 else s

-- ---- questions: a number, and the reply where it is 0 ----

-- questions and plans 12, 13. 12 STALE: no sync since the last accepted start, reload, load, put or effective removal.
abbrev pub ask_tree : TreeQuestion → State → ℕ
ask_tree q s = 12 if not s.fresh else 13 if too_short (tree_lent q) (tree_reply s.holdings s.values q) else 0

-- Effective record, effective count, generation, version and changes never meet 12.
abbrev pub ask_holdings : HoldingsQuestion → State → ℕ
ask_holdings q s = 13 if too_short (holdings_lent q) (holdings_reply s.holdings q) else 0
