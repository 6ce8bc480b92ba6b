-- What the words of a row read as (addresses: crates/memory/specs/Layout.antt; document 01, "Holding blocks": room keeps the header and the
-- answer, and a copy for each store). Total: any words read as something.
use Rattle.std.specs.Prelude.{List, ℕ, ◌+◌, eqb}
use Rattle.std.proofs.Math.Option.{Option}
use Rattle.amount.specs.Choose.{◌if◌else◌}
use Rattle.amount.specs.Value.{from_words}
use Rattle.model.specs.Record.{Header, Copy}
use Rattle.model.specs.Holding.{Held, Cell, free, held, answer_of}
use Rattle.model.specs.Standing.{Spine, winner, canonical, Value, unlinked, linked}
use Rattle.block.specs.Words.{header_of, copy_of}
use Rattle.memory.specs.Words.{word, seg}
use Rattle.memory.specs.Layout.{row}

-- a header and a copy, where they begin
unfoldable pub header_at : List ℕ → ℕ → Header
header_at m at = header_of (seg m at 4) (seg m (at + 4) 4) (seg m (at + 8) 4) (seg m (at + 12) 4)

unfoldable pub copy_at : List ℕ → ℕ → Option Copy
copy_at m at = copy_of (seg m at 4) (seg m (at + 4) 4) (seg m (at + 8) 4)

-- what the row that begins at `at` holds of a hash
abbrev pub held_at : List ℕ → ℕ → Held
held_at m at = record { header = header_at m (at + 4); answer = answer_of (word m (at + 1)); in_active = copy_at m (at + 20); in_forks = copy_at m (at + 32); in_canon = copy_at m (at + 44) }

unfoldable pub cell_of : ℕ → Held → Cell
cell_of used h = held h if eqb used 1 else free

abbrev pub cell_at : List ℕ → ℕ → Cell
cell_at m p = cell_of (word m (row p)) (held_at m (row p))

-- a linked value of three words, kind 0: not linked; 2: proofs ok
unfoldable pub value_of : (ℕ → ℕ) → Value
value_of s = unlinked if eqb (s 0) 0 else linked (from_words (s 1) (s 2)) (eqb (s 0) 2)

abbrev pub value_at : List ℕ → Spine → ℕ → Value
value_at m winner p = value_of (seg m (row p + 56) 3)
value_at m canonical p = value_of (seg m (row p + 60) 3)
