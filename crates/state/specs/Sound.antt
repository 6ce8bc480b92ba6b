-- A memory that our calls left: the structures of the holdings agree with what the rows say. One field a concern. What a sync keeps of the tree
-- has a record of its own (crate relink, Treed.antt); `Apart` (Moves.antt) says that a step leaves that alone.
use Rattle.std.specs.Prelude.{Bool, true, false, List, ◌≡◌, ℕ, ◌+◌, ◌<◌, ltb}
use Rattle.std.proofs.Math.Option.{Option, none, some}
use Rattle.amount.specs.Choose.{◌if◌else◌}
use Rattle.model.specs.Holding.{is_free, is_held, effective_count, live_count}
use Rattle.model.specs.Standing.{canonical_count}
use Rattle.memory.specs.Words.{word}
use Rattle.memory.specs.Layout.{row, by_hash, by_prev, vacant_at, Laid}
use Rattle.index.specs.Index.{Keyed}
use Rattle.index.specs.Keys.{key_at}
use Rattle.contest.specs.Tree.{WF}
use Rattle.contest.specs.Contests as contest
use Rattle.roster.specs.Roster.{WellFormed, is_in}
use Rattle.journal.specs.Journal.{Journaled}
use Rattle.rows.specs.Rows.{header_at}
use Rattle.state.specs.View.{cells_of, view_at}

-- place q has room for a hash
abbrev pub Used : List ℕ → ℕ → Type 0
Used m q = word m (row q) ≡ 1

abbrev pub hash_at : List ℕ → ℕ → ℕ
hash_at m p = (header_at m (row p + 4)).hash

-- the roster of places that may be freed by the next sync: its size is head word 15, positions are word 2 of each row
abbrev pub Roster : List ℕ → ℕ → Type 0
Roster m n = WellFormed m n (vacant_at n) 15 66

abbrev pub is_listed : List ℕ → ℕ → ℕ → Bool
is_listed m n p = is_in m n (vacant_at n) 15 66 p

pub record SoundAt (m : List ℕ) (n : ℕ) : Type 0 where
  pub laid : Laid m n
  pub hashes : Keyed m n (by_hash n) (key_at m 68 false) (Used m)
  pub prevs : Keyed m n (by_prev n) (key_at m 72 false) (Used m)
  pub keys : (p q : ℕ) → p < n → q < n → Used m p → Used m q → hash_at m p ≡ hash_at m q → p ≡ q
  pub free : WF n (contest.view m n 3)
  pub roster : Roster m n
  -- every place that a sync must free is listed; a listed place may have a copy again
  pub vacant : (p : ℕ) → p < n → is_free (cells_of m n p) ≡ false → is_held (cells_of m n p) ≡ false → is_listed m n p ≡ true
  pub effective : word m 11 ≡ effective_count (view_at m n).holdings
  pub live : word m 12 ≡ live_count (view_at m n).holdings
  pub canonical : word m 13 ≡ canonical_count (view_at m n).holdings
  pub journal : Journaled m n

abbrev pub Sound : List ℕ → Type 0
Sound m = SoundAt m (word m 0)

-- a place below n, or none
abbrev pub placed : ℕ → ℕ → Option ℕ
placed n r = some r if ltb r n else none
