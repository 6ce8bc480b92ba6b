-- Demand 3's histories: any calls from a fresh start, and the premise on ineligible answers.
use Rattle.std.specs.Prelude.{ℕ, ◌≡◌, Bool, true, false, not, ◌&&◌, ◌||◌, eqb}
use Rattle.amount.specs.Choose.{◌if◌else◌}
use Rattle.model.specs.Places.{is_some}
use Rattle.model.specs.Record.{Block}
use Rattle.model.specs.Holding.{Cell, free, held, Holdings, place_of, test_at}
use Rattle.model.specs.Standing.{not_ineligible}
use Rattle.model.specs.Numbers.{State, Call, load, put, remove, answer, reload, sync, begin, number, step}

-- a run: any calls from a fresh start, accepted or refused
pub data Run : State → Type 0 where
  start : (room journal_room generation version : ℕ) → Run (begin room journal_room generation version)
  call : (c : Call) {s : State} → Run s → Run (step c s)

-- ---- the premise: an ineligible answer comes before the first sync after its hash was given room ----

-- hashes that were given room since the last sync
abbrev pub New : Type 0
New = ℕ → Bool

abbrev pub gives_room : Block → State → ℕ → Bool
gives_room b s x = eqb x b.header.hash && not (is_some (place_of s.holdings x))

unfoldable pub new_after : Call → State → New → New
new_after (load k b) s new = λ x. new x || gives_room b s x
new_after (put k b) s new = λ x. new x || gives_room b s x
new_after (remove k x) s new = new
new_after (answer x a) s new = new
new_after (reload g v) s new = λ x. false
new_after sync s new = λ x. false

unfoldable pub new_next : Call → State → New → New
new_next c s new = new_after c s new if eqb (number c s) 0 else new

unfoldable pub new_of : {s : State} → Run s → New
new_of (start room journal_room generation version) = λ x. false
new_of (call c {s} r) = new_next c s (new_of r)

-- the hash has the ineligible answer already
abbrev pub cell_ineligible : Cell → Bool
cell_ineligible free = false
cell_ineligible (held c) = not (not_ineligible c.answer)

abbrev pub is_ineligible : Holdings → ℕ → Bool
is_ineligible h x = test_at (place_of h x) cell_ineligible h.cells

-- an ineligible answer, if it is taken and is not there already, is for a hash that was given room since the last sync
abbrev pub Timely : Call → State → New → Type 0
Timely (load k b) s new = Unit {0}
Timely (put k b) s new = Unit {0}
Timely (remove k x) s new = Unit {0}
Timely (answer x a) s new = a ≡ 2 → number (answer x a) s ≡ 0 → (new x || is_ineligible s.holdings x) ≡ true
Timely (reload g v) s new = Unit {0}
Timely sync s new = Unit {0}

unfoldable pub InTime : {s : State} → Run s → Type 0
InTime (start room journal_room generation version) = Unit {0}
InTime (call c {s} r) = Timely c s (new_of r) × InTime r
