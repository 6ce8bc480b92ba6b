-- What start and reload promise, of any memory.
use Rattle.std.specs.Prelude.{List, ◌≡◌, ℕ, length}
use Rattle.model.specs.Numbers.{begin, start_number, reload, effect}
use Rattle.memory.specs.Words.{word}
use Rattle.memory.specs.Layout.{need}
use Rattle.state.specs.View.{view, view_at}
use Rattle.state.specs.Sound.{Sound, SoundAt}
use Rattle.state.specs.Moves.{Right}
use Rattle.clearing.specs.Blank.{Blank}

-- inside of a start that is accepted
pub record Begun (m' : List ℕ) (n j g v : ℕ) : Type 0 where
  pub room : word m' 0 ≡ n
  pub sound : SoundAt m' n
  pub state : view_at m' n ≡ begin n j g v
  pub blank : Blank m' n

-- inside of a reload that is accepted
pub record Emptied (m m' : List ℕ) (n g v : ℕ) : Type 0 where
  pub room : word m' 0 ≡ n
  pub sound : SoundAt m' n
  pub state : view_at m' n ≡ effect (reload g v) (view_at m n)
  pub blank : Blank m' n

-- start: the number is the model's whatever the memory; a refusal leaves it; else what is left is sound and stands for the model's beginning
pub record Starts (n j g v : ℕ) (m m' : List ℕ) (r : ℕ) : Type 0 where
  pub number_is : r ≡ start_number need (length m) n j
  pub refused : (r ≡ 0 → ⊥) → m' ≡ m
  pub sound : r ≡ 0 → Sound m'
  pub state : r ≡ 0 → view m' ≡ begin n j g v
  pub blank : r ≡ 0 → Blank m' (word m' 0)

-- reload: a refusal leaves the memory; of a sound one, the number is the model's, and what is left is sound, empty and stands for the model's next state
pub record Reloads (g v : ℕ) (m m' : List ℕ) (r : ℕ) : Type 0 where
  pub refused : (r ≡ 0 → ⊥) → m' ≡ m
  pub right : Sound m → Right (reload g v) m m' r
  pub blank : r ≡ 0 → Blank m' (word m' 0)
