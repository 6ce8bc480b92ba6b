-- What the state word of an effective copy says of its block (0: there is none), and how the three counts follow a change of it.
use Rattle.std.specs.Prelude.{Bool, not, ◌&&◌, cond, List, ◌≡◌, ℕ, ◌+◌, ◌≤◌, ◌<◌, eqb, length}
use Rattle.model.specs.Holding.{held, is_held, is_live, is_canonical}
use Rattle.model.specs.Numbers.{max_word}
use Rattle.block.specs.Words as words
use Rattle.memory.specs.Words.{word, Only}
use Rattle.rows.specs.Rows.{held_at}

abbrev pub held_by : ℕ → Bool
held_by w = not (eqb w 0)

abbrev pub live_by : ℕ → Bool
live_by w = held_by w && not (words.is_orphaned w)

abbrev pub canonical_by : ℕ → Bool
canonical_by w = held_by w && (not (words.is_orphaned w) && words.is_canonical w)

-- w is the state word of the effective copy of the row that begins at `at`
pub record Says (m : List ℕ) (at w : ℕ) : Type 0 where
  pub effective : is_held (held (held_at m at)) ≡ held_by w
  pub live : is_live (held (held_at m at)) ≡ live_by w
  pub canonical : is_canonical (held (held_at m at)) ≡ canonical_by w

-- a count after one place was in or out and is now
abbrev pub Moved : ℕ → Bool → Bool → ℕ → Type 0
Moved c was now r = cond was 1 0 ≤ c → c < max_word → r + cond was 1 0 ≡ c + cond now 1 0

pub record Tallied (m m' : List ℕ) (was now : ℕ) : Type 0 where
  pub effective : Moved (word m 11) (held_by was) (held_by now) (word m' 11)
  pub live : Moved (word m 12) (live_by was) (live_by now) (word m' 12)
  pub canonical : Moved (word m 13) (canonical_by was) (canonical_by now) (word m' 13)
  pub only : Only m m' 11 14
  pub long : length m' ≡ length m
