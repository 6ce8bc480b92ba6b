-- What the memory means: the model's state, read off the words (addresses: crates/memory/specs/Layout.antt). Total: any memory has a view.
use Rattle.std.specs.Prelude.{Bool, List, ℕ, eqb, ltb}
use Rattle.std.proofs.Math.Option.{Option, none, some}
use Rattle.amount.specs.Choose.{◌if◌else◌}
use Rattle.model.specs.Holding.{Cell, free}
use Rattle.model.specs.Standing.{Values, unlinked}
use Rattle.model.specs.Numbers.{State, Point}
use Rattle.memory.specs.Words.{word, seg}
use Rattle.rows.specs.Rows.{cell_at, value_at}
use Rattle.journal.specs.Journal.{journal_of}

abbrev pub cells_of : List ℕ → ℕ → ℕ → Cell
cells_of m n p = cell_at m p if ltb p n else free

abbrev pub values_of : List ℕ → ℕ → Values
values_of m n w p = value_at m w p if ltb p n else unlinked

-- where the last sync stood
unfoldable pub synced_of : (ℕ → ℕ) → Option Point
synced_of s = none if eqb (s 0) 0 else some (record { generation = s 1; version = s 2 })

abbrev pub state : ℕ → ℕ → (ℕ → Cell) → ℕ → ℕ → List ℕ → Bool → Values → Option Point → Bool → State
state n j cells g v journal loading values synced fresh =
    record {
      holdings = record { room = n; journal_room = j; cells = cells; generation = g; version = v; journal = journal; loading = loading };
      values = values;
      synced = synced;
      fresh = fresh;
    }

unfoldable pub view_at : List ℕ → ℕ → State
view_at m n =
    state n (word m 1) (cells_of m n) (word m 2) (word m 3) (journal_of m n) (eqb (word m 6) 1) (values_of m n) (synced_of (seg m 8 3)) (eqb (word m 7) 1)

abbrev pub view : List ℕ → State
view m = view_at m (word m 0)
