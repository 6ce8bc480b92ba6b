-- What a call promises inside, at the room n: whatever the memory, a refusal leaves it and the layout stays; of a sound one the number is the
-- model's, what is left stands for the model's next state, and what a sync keeps of the tree is as it was.
use Rattle.std.specs.Prelude.{List, ◌≡◌, ℕ}
use Rattle.model.specs.Numbers.{Call, number, step}
use Rattle.state.specs.View.{view_at}
use Rattle.state.specs.Sound.{SoundAt}
use Rattle.state.specs.Moves.{Stands, Apart}

pub record Within (c : Call) (m m' : List ℕ) (n r : ℕ) : Type 0 where
  pub refused : (r ≡ 0 → ⊥) → m' ≡ m
  pub number_is : SoundAt m n → r ≡ number c (view_at m n)
  pub stands : SoundAt m n → Stands m' n (step c (view_at m n))
  pub apart : SoundAt m n → Apart m m' n
