-- Document 01, "Numbers given back", the two plans as calls: the number, what the host gets, and its entries put on the records.
use Rattle.std.specs.Prelude.{ℕ, not, List, [], ◌∷◌, ℤ, eqb, ltb}
use Rattle.std.proofs.Math.Option.{Option, some}
use Rattle.amount.specs.Choose.{◌if◌else◌}
use Rattle.model.specs.Holding.{active, Cell, free, held, Holdings, set_copy, with_cells, live_count}
use Rattle.model.specs.Walks.{Asked}
use Rattle.model.specs.Writes.{Entry, entries, Plan, scan, apply}
use Rattle.model.specs.Select.{select}
use Rattle.model.specs.Adopt.{adopt}
use Rattle.model.specs.Numbers.{State}

-- a plan call: floor, blocks per epoch, clock, and how long the lent list is
pub data PlanCall : Type 0 where
  select_c adopt_c : Option ℕ → ℕ → ℤ → ℕ → PlanCall

-- The plan is handed back as entries of one shape in a list the host lends: scan, or `changed` and the entries in order.
pub data PlanReply : Type 0 where
  scanned : PlanReply
  applied : ℕ → List Entry → PlanReply

abbrev pub asked : State → Option ℕ → ℕ → ℤ → Asked
asked s floor n clock = record { holdings = s.holdings; values = s.values; floor = floor; per_epoch = n; clock = clock }

abbrev pub plan_of : PlanCall → State → Plan
plan_of (select_c floor n clock lent) s = select (asked s floor n clock)
plan_of (adopt_c floor n clock lent) s = adopt (asked s floor n clock)

abbrev pub hand_back : Holdings → Plan → PlanReply
hand_back h scan = scanned
hand_back h (apply n ws) = applied n (entries h ws)

abbrev pub plan_reply : PlanCall → State → PlanReply
plan_reply c s = hand_back s.holdings (plan_of c s)

abbrev pub plan_lent : PlanCall → ℕ
plan_lent (select_c floor n clock lent) = lent
plan_lent (adopt_c floor n clock lent) = lent

-- Questions and plans 12, 13. 13 LIST: plans need the live count.
abbrev pub ask_plan : PlanCall → State → ℕ
ask_plan c s = 12 if not s.fresh else 13 if ltb (plan_lent c) (live_count s.holdings) else 0

-- ---- the entries put on the records: each as the active copy of its hash ----

abbrev pub entry_put : Entry → Cell → Cell
entry_put e free = free
entry_put e (held c) = held (set_copy active (some e.copy) c) if eqb c.header.hash e.hash else held c

unfoldable pub cell_with : List Entry → Cell → Cell
cell_with [] c = c
cell_with (e ∷ l) c = cell_with l (entry_put e c)

unfoldable pub records_after : Holdings → PlanReply → Holdings
records_after h scanned = h
records_after h (applied n l) = with_cells h (λ p. cell_with l (h.cells p))
