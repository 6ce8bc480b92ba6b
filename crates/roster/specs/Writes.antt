-- What the functions that write leave: frames, of any memory, and what becomes of a set that is well formed.
use Rattle.std.specs.Prelude.{true, false, List, ◌≡◌, ℕ, ◌+◌, ◌*◌, ◌-◌, ◌≤◌, ◌<◌, length}
use Rattle.memory.specs.Words.{word}
use Rattle.roster.specs.Roster.{size_at, member_at, is_in, WellFormed}

-- only the size, members, and the position in the word at `at` changed
abbrev pub Within : List ℕ → List ℕ → ℕ → ℕ → ℕ → ℕ → Type 0
Within m m' n list size at = (a : ℕ) → (a ≡ size → ⊥) → (list ≤ a → a < list + n → ⊥) → (a ≡ at → ⊥) → word m' a ≡ word m a

pub record Added (m m' : List ℕ) (n list size posn p : ℕ) : Type 0 where
  pub within : Within m m' n list size (posn + 68 * p)
  pub long : length m' ≡ length m
  pub again : is_in m n list size posn p ≡ true → m' ≡ m
  pub well : WellFormed m n list size posn → WellFormed m' n list size posn
  pub now_in : WellFormed m n list size posn → is_in m' n list size posn p ≡ true
  pub others : WellFormed m n list size posn → (q : ℕ) → q < n → (q ≡ p → ⊥) → is_in m' n list size posn q ≡ is_in m n list size posn q
  pub more : WellFormed m n list size posn → is_in m n list size posn p ≡ false → size_at m' n size ≡ size_at m n size + 1

-- the last member takes the position of the one that is dropped
pub record Dropped (m m' : List ℕ) (n list size posn p : ℕ) : Type 0 where
  pub within : Within m m' n list size (posn + 68 * member_at m n list (size_at m n size - 1))
  pub long : length m' ≡ length m
  pub again : is_in m n list size posn p ≡ false → m' ≡ m
  pub well : WellFormed m n list size posn → WellFormed m' n list size posn
  pub now_out : WellFormed m n list size posn → is_in m' n list size posn p ≡ false
  pub others : WellFormed m n list size posn → (q : ℕ) → q < n → (q ≡ p → ⊥) → is_in m' n list size posn q ≡ is_in m n list size posn q
  pub less : WellFormed m n list size posn → is_in m n list size posn p ≡ true → size_at m n size ≡ size_at m' n size + 1
