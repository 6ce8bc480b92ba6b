-- What a sync begins with (document 01, "Standing in the tree"): the changed hashes; or, where none are to be had, no values and every live block.
use Rattle.std.specs.Prelude.{false, List, ◌≡◌, ℕ, ◌+◌, ◌<◌, length}
use Rattle.model.specs.Holding.{is_live}
use Rattle.model.specs.Standing.{unlinked}
use Rattle.model.specs.Relink.{Pending, settled, relinked}
use Rattle.model.specs.Numbers.{changes}
use Rattle.memory.specs.Words.{word}
use Rattle.memory.specs.Layout.{row}
use Rattle.state.specs.View.{cells_of, values_of, view_at}
use Rattle.state.specs.Sound.{SoundAt}
use Rattle.state.specs.TreeOnly.{TreeOnly}
use Rattle.pending.specs.Pending.{Pends}
use Rattle.relink.specs.Treed.{Treed}
use Rattle.relink.specs.Turned.{ValueOnly}

-- no row says that it has a value or children
pub record Wiped (m m' : List ℕ) (n : ℕ) : Type 0 where
  pub long : length m' ≡ length m
  pub winner : (q : ℕ) → q < n → word m' (row q + 56) ≡ 0
  pub canonical : (q : ℕ) → q < n → word m' (row q + 60) ≡ 0
  pub kids : (q : ℕ) → q < n → word m' (row q + 64) ≡ 0
  pub only : (a : ℕ) → ((q : ℕ) → q < n → a ≡ row q + 56 → ⊥) → ((q : ℕ) → q < n → a ≡ row q + 60 → ⊥) → ((q : ℕ) → q < n → a ≡ row q + 64 → ⊥) → word m' a ≡ word m a

-- there are no values
pub record Resets (m m' : List ℕ) (n : ℕ) : Type 0 where
  pub only : ValueOnly m m' n
  pub values : values_of m' n ≡ (λ w p. unlinked)
  pub treed : Treed m n → Treed m' n

pub record Rebuilds (m m' : List ℕ) (n : ℕ) : Type 0 where
  pub only : TreeOnly m m' n
  pub values : values_of m' n ≡ (λ w p. unlinked)
  pub treed : Treed m n → Treed m' n
  pub pends : SoundAt m n → Pends m n (λ q. false) → Pends m' n (λ q. is_live (cells_of m n q))

-- what is pending comes to what the model's sync works out
pub record Gathered (m m' : List ℕ) (n : ℕ) : Type 0 where
  pub treed : Treed m' n
  pub pend : Pending
  pub pends : Pends m' n pend
  pub same : settled (view_at m n).holdings (values_of m' n) pend ≡ relinked (view_at m n).holdings (values_of m n) (changes (view_at m n))

pub record Gathers (m m' : List ℕ) (n : ℕ) : Type 0 where
  pub only : TreeOnly m m' n
  pub right : SoundAt m n → Treed m n → Pends m n (λ q. false) → Gathered m m' n
