-- Document 01, "The two plans", Select: what its steps make of the codes of places. While Select decides, the code 8 stands for a block kept aside, of which it is not
-- decided yet what becomes of it; none is left when it is done. (Select has no other use for codes above 3.)
use Rattle.std.specs.Prelude.{Bool, true, false, not, ◌&&◌, ◌||◌, List, ◌≡◌, ℕ, eqb}
use Rattle.std.proofs.Math.Option.{Option}
use Rattle.amount.specs.Choose.{◌if◌else◌}
use Rattle.model.specs.Lists.{elem}
use Rattle.model.specs.Holding.{Holdings, is_live, is_canonical, index_of}
use Rattle.model.specs.Walks.{Asked, walk, under, above}
use Rattle.state.specs.View.{view_at}
use Rattle.state.specs.Sound.{SoundAt, Used}
use Rattle.pending.specs.Pending.{PendOnly}
use Rattle.writing.specs.Coded.{Coded}
use Rattle.writing.specs.Planned.{PlanOnly}
use Rattle.walks.specs.Asking.{floor_means}
use Rattle.turning.specs.declared.Turn.{Turn}
use Rattle.turning.specs.declared.Turn.TheVariants.{Off, Near, Into}

-- a canonical block off the local walk: aside at or below the floor, else demoted
abbrev pub off_code : Option ℕ → ℕ → ℕ
off_code floor i = 8 if under floor i else 2

-- a pass by the walk from the top: canonical blocks off the walk; blocks aside that are on it; all that are aside
unfoldable pub turned : Turn → Holdings → ℕ → ℕ → ℕ → ℕ
turned (Off floor) h top q c = off_code (floor_means floor) (index_of (h.cells q)) if is_canonical (h.cells q) && not (elem q (walk h top)) else c
turned Near h top q c = (0 if elem q (walk h top) else 8) if eqb c 8 else c
turned (Into to) h top q c = to if eqb c 8 else c

-- up a walk: promoted where not canonical by now, or demoted
unfoldable pub climbed : Bool → Holdings → ℕ → ℕ → ℕ
climbed true h q c = 1 if eqb c 2 || not (is_canonical (h.cells q)) else c
climbed false h q c = 3

-- the blocks of the walk from the top above f are promoted or demoted
pub record Climbs (m m' : List ℕ) (n : ℕ) (up : Bool) (top f : ℕ) : Type 0 where
  pub only : PendOnly m m' n
  pub right : SoundAt m n → (a : Asked) → a.holdings ≡ (view_at m n).holdings → is_live ((view_at m n).holdings.cells top) ≡ true → Used m f → (c : ℕ → ℕ) → Coded m n c
      → Coded m' n (λ q. climbed up (view_at m n).holdings q (c q) if elem q (above a f top) else c q)

-- the walk from the top is noted, and a pass gone by it
pub record TurnsAll (m m' : List ℕ) (n : ℕ) (t : Turn) (top : ℕ) : Type 0 where
  pub only : PlanOnly m m' n
  pub right : SoundAt m n → Used m top → (f : ℕ → ℕ) → Coded m n f → Coded m' n (λ q. turned t (view_at m n).holdings top q (f q))
