-- What a call promises of a whole memory: whatever the memory, a refusal leaves it; of a whole one, the number is the model's, and what is left is
-- whole and stands for the model's next state.
use Rattle.std.specs.Prelude.{List, ◌≡◌, ℕ, length}
use Rattle.model.specs.Numbers.{Call, sync, number, step}
use Rattle.memory.specs.Words.{word, Only}
use Rattle.state.specs.View.{view, view_at}
use Rattle.asking.specs.Whole.{Whole, WholeAt}

pub record Kept (c : Call) (m m' : List ℕ) (r : ℕ) : Type 0 where
  pub number_is : r ≡ number c (view m)
  pub whole : Whole m'
  pub state : view m' ≡ step c (view m)

pub record Keeps (c : Call) (m m' : List ℕ) (r : ℕ) : Type 0 where
  pub refused : (r ≡ 0 → ⊥) → m' ≡ m
  pub right : Whole m → Kept c m m' r

-- ---- sync ----

-- the head says where the sync stood, that it covers the present, and that loads are no longer taken
pub record Noted (m m' : List ℕ) : Type 0 where
  pub loading : word m' 6 ≡ 0
  pub fresh : word m' 7 ≡ 1
  pub synced : word m' 8 ≡ 1
  pub generation : word m' 9 ≡ word m 2
  pub version : word m' 10 ≡ word m 3
  pub only : Only m m' 6 11
  pub long : length m' ≡ length m

pub record SyncedAt (m m' : List ℕ) (n : ℕ) : Type 0 where
  pub whole : WholeAt m' n
  pub state : view_at m' n ≡ step sync (view_at m n)

pub record Syncs (m m' : List ℕ) (n : ℕ) : Type 0 where
  pub right : WholeAt m n → SyncedAt m m' n
