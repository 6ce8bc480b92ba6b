-- A memory that calls left, with all that the library keeps: the holdings' structures, the tree's, nothing pending; and the state that it stands
-- for is one that calls lead to from a fresh start, so that what the model proves of such states holds of it.
use Rattle.std.specs.Prelude.{List, ◌≡◌, ℕ, false}
use Rattle.model.specs.Runs.{Run}
use Rattle.memory.specs.Words.{word}
use Rattle.state.specs.View.{view_at}
use Rattle.state.specs.Sound.{SoundAt}
use Rattle.pending.specs.Pending.{Pends}
use Rattle.relink.specs.Treed.{Treed}

pub record WholeAt (m : List ℕ) (n : ℕ) : Type 0 where
  pub sound : SoundAt m n
  pub treed : Treed m n
  pub idle : Pends m n (λ q. false)
  pub run : Run (view_at m n)

abbrev pub Whole : List ℕ → Type 0
Whole m = WholeAt m (word m 0)

-- a call that writes only words that nothing else reads, as leaves and the plans do: a whole memory stays whole and stands for the same state
pub record Stays (m m' : List ℕ) : Type 0 where
  pub whole : Whole m → WholeAt m' (word m 0)
  pub view : Whole m → view_at m' (word m 0) ≡ view_at m (word m 0)
