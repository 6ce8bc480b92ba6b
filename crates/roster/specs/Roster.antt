-- A dense set in a memory: the number of its members in the word at `size`, the members in n words at `list`, and the position of place p
-- in the word at posn + 68 * p, which is a word of p's row. Words out of range are taken for 0, so that any memory holds a set.
use Rattle.std.specs.Prelude.{Bool, List, ◌≡◌, ℕ, ◌+◌, ◌*◌, ◌≤◌, ◌<◌, leb, ltb}
use Rattle.amount.specs.Choose.{◌if◌else◌}
use Rattle.memory.specs.Words.{word}
use Rattle.roster.specs.Dense.{inside, Sound}

unfoldable pub size_at : List ℕ → ℕ → ℕ → ℕ
size_at m n size = word m size if leb (word m size) n else 0

unfoldable pub member_at : List ℕ → ℕ → ℕ → ℕ → ℕ
member_at m n list i = word m (list + i) if ltb (word m (list + i)) n else 0

abbrev pub position_at : List ℕ → ℕ → ℕ → ℕ
position_at m posn p = word m (posn + 68 * p)

-- place p is a member
abbrev pub is_in : List ℕ → ℕ → ℕ → ℕ → ℕ → ℕ → Bool
is_in m n list size posn p = inside (size_at m n size) (member_at m n list) (position_at m posn) p

abbrev pub WellFormed : List ℕ → ℕ → ℕ → ℕ → ℕ → Type 0
WellFormed m n list size posn = Sound n (size_at m n size) (member_at m n list) (position_at m posn)

-- what `count` and `at` answer
pub record Size (m : List ℕ) (n size r : ℕ) : Type 0 where
  pub is : r ≡ size_at m n size
  pub few : r ≤ n

pub record Member (m : List ℕ) (n list i r : ℕ) : Type 0 where
  pub is : r ≡ member_at m n list i
  pub below : r < n

-- the layout: the word of the size, then the rows with the positions, then the members
pub record Lies (n list size posn len : ℕ) : Type 0 where
  pub some : 1 ≤ n
  pub head : size < posn
  pub rows : posn + 68 * n < list + 68
  pub room : list + n ≤ len
