-- Document 01, "The two plans": what a plan is asked with, walks, and the floor.
use Rattle.std.specs.Prelude.{ℕ, zero, suc, Bool, true, false, ◌&&◌, List, [], ◌∷◌, ℤ, ltb, leb}
use Rattle.std.proofs.Math.Option.{Option, none, some}
use Rattle.amount.specs.Amounts.{Amount, readable, unreadable}
use Rattle.model.specs.Lists.{elem, only, find}
use Rattle.model.specs.Holding.{Cell, free, held, Holdings, is_canonical, index_of, hash_of}
use Rattle.model.specs.Standing.{Values, parent, meets_target}
use Rattle.model.specs.Comparing.{covers}

-- the tree as the last sync left it, the floor if one is given, blocks per epoch, and the clock: one time for a whole plan
pub record Asked : Type 0 where
  pub holdings : Holdings
  pub values : Values
  pub floor : Option ℕ
  pub per_epoch : ℕ
  pub clock : ℤ

-- ---- one block, by its place ----

abbrev pub cell : Asked → ℕ → Cell
cell a p = a.holdings.cells p

abbrev pub index : Asked → ℕ → ℕ
index a p = index_of (cell a p)

abbrev pub hash : Asked → ℕ → ℕ
hash a p = hash_of (cell a p)

abbrev pub is_canon : Asked → ℕ → Bool
is_canon a p = is_canonical (cell a p)

-- tests and numbers of a header; a free place has none
unfoldable pub cell_covers : ℕ → Cell → Bool
cell_covers n free = true
cell_covers n (held c) = covers n c.header

unfoldable pub cell_meets : Cell → Bool
cell_meets free = false
cell_meets (held c) = meets_target c.header

abbrev pub amount_of : Amount → ℕ
amount_of (readable n) = n
amount_of unreadable = 0

unfoldable pub cell_actual : Cell → ℕ
cell_actual free = 0
cell_actual (held c) = amount_of c.header.actual

abbrev pub covers_at : Asked → ℕ → Bool
covers_at a p = cell_covers a.per_epoch (cell a p)

abbrev pub meets_at : Asked → ℕ → Bool
meets_at a p = cell_meets (cell a p)

abbrev pub actual_at : Asked → ℕ → ℕ
actual_at a p = cell_actual (cell a p)

-- ---- walks ----

-- from a place down through parents, at most so many steps
abbrev pub onward : (ℕ → List ℕ) → Option ℕ → List ℕ
onward f none = []
onward f (some p) = f p

unfoldable pub down : ℕ → Holdings → ℕ → List ℕ
down zero h p = p ∷ []
down (suc i) h p = p ∷ onward (down i h) (parent h p)

-- a parent's index is one less, so index 0 is reached by then
unfoldable pub walk : Holdings → ℕ → List ℕ
walk h p = down (index_of (h.cells p)) h p

abbrev pub walk_of : Asked → ℕ → List ℕ
walk_of a p = walk a.holdings p

-- Find the fork, the highest common block of both walks.
abbrev pub fork : Asked → ℕ → ℕ → Option ℕ
fork a p q = find (λ r. elem r (walk_of a q)) (walk_of a p)

-- the walk to p above the block f, highest first
unfoldable pub above : Asked → ℕ → ℕ → List ℕ
above a f p = only (λ q. ltb (index a f) (index a q)) (walk_of a p)

-- ---- the floor ----

-- a floor is given, and the index is at or below it
abbrev pub under : Option ℕ → ℕ → Bool
under none i = false
under (some floor) i = leb i floor

-- a floor is given, and the block is below both it and local
abbrev pub below : Option ℕ → ℕ → ℕ → Bool
below none i local = false
below (some floor) i local = ltb i floor && ltb i local
