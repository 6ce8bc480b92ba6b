-- Document 01, "The two plans", Select: what its functions promise from both tips on. The codes that stand after each step are given by the model's own tests
-- of a block and by its lists of places; so what a step leaves is told without what the steps before it did.
use Rattle.std.specs.Prelude.{Bool, true, not, ◌&&◌, List, ◌++◌, ◌≡◌, ℕ, ◌<◌}
use Rattle.std.proofs.Math.Option.{Option, some}
use Rattle.amount.specs.Choose.{◌if◌else◌}
use Rattle.model.specs.Holding.{is_live}
use Rattle.model.specs.Lists.{elem, only, any, is_empty}
use Rattle.model.specs.Select.{on, off, aside, demotions, some?, stop, select_at, select_from}
use Rattle.model.specs.Walks.{Asked, index, is_canon, fork, above, under}
use Rattle.model.specs.Writes.{copy_after, Plan}
use Rattle.state.specs.Sound.{SoundAt}
use Rattle.walks.specs.Asking.{Asks}
use Rattle.writing.specs.Coded.{Coded}
use Rattle.writing.specs.Decides.{changed_by, decided_changed, decided_reason}
use Rattle.writing.specs.Meant.{Meant}
use Rattle.writing.specs.Planned.{PlanOnly, writes_of}
use Rattle.writing.specs.declared.Decided.{Decided}
use Rattle.turning.specs.Turned.{off_code}

-- ---- the codes ----

-- canonical blocks off the local walk are marked, ..
unfoldable pub marked : Asked → ℕ → ℕ → ℕ
marked a local q = off_code a.floor (index a q) if is_canon a q && not (on a local q) else 0

-- .. then those aside are unmarked that are on best's walk
unfoldable pub strayed : Asked → ℕ → ℕ → ℕ → ℕ
strayed a top local q = ((0 if on a top q else 8) if under a.floor (index a q) else 2) if is_canon a q && not (on a local q) else 0

-- the places of the model's changes
abbrev pub demoted_of : Asked → ℕ → List ℕ
demoted_of a local = only (λ p. not (under a.floor (index a p))) (off a local)

abbrev pub promoted_of : Asked → ℕ → ℕ → ℕ → List ℕ
promoted_of a top local f = only (λ p. not (copy_after a.holdings (demotions a local) p).canonical) (above a f top)

abbrev pub strays_of : Asked → ℕ → ℕ → List ℕ
strays_of a top local = only (λ p. not (on a top p)) (aside a local)

abbrev pub competing_of : Asked → ℕ → ℕ → ℕ → List ℕ
competing_of a top local f = above a f local ++ strays_of a top local

-- what is left where Select stops, and where it switches: a later change stands in place of an earlier one
unfoldable pub stopped : Asked → ℕ → ℕ → ℕ
stopped a local q = 2 if elem q (demoted_of a local) else 0

unfoldable pub switched : Asked → ℕ → ℕ → ℕ → ℕ → ℕ
switched a top local f q = 3 if elem q (competing_of a top local f) else 1 if elem q (promoted_of a top local f) else 2 if elem q (demoted_of a local) else 0

-- ---- what is known and found ----

-- Select is asked of a memory, with both tips; canonical blocks off the local walk are told by their tests
pub record Tips (a : Asked) (m : List ℕ) (n : ℕ) (floor : Option ℕ) (per top local : ℕ) : Type 0 where
  pub sound : SoundAt m n
  pub asks : Asks a m n floor per
  pub top_live : is_live (a.holdings.cells top) ≡ true
  pub local_live : is_live (a.holdings.cells local) ≡ true
  pub off_is : (q : ℕ) → q < n → elem q (off a local) ≡ (is_canon a q && not (on a local q))

-- whether something was demoted, as `changed`
abbrev pub counted : Bool → ℕ
counted b = 1 if b else 0

-- whether something was demoted; whether some are aside; whether some of these are off best's walk
abbrev pub IsDemoted : Asked → ℕ → Bool → Type 0
IsDemoted a local b = some? (demotions a local) ≡ counted b

abbrev pub IsAside : Asked → ℕ → Bool → Type 0
IsAside a local b = is_empty (aside a local) ≡ not b

abbrev pub IsStray : Asked → ℕ → ℕ → Bool → Type 0
IsStray a top local b = any (λ p. not (on a top p)) (aside a local) ≡ b

-- ---- what is promised ----

-- a plan is decided, and its changes stand as codes
pub record Settles (p : Plan) (a : Asked) (m : List ℕ) (n : ℕ) (x : Decided) : Type 0 where
  pub changed : decided_changed x ≡ changed_by p
  pub codes : ℕ → ℕ
  pub coded : Coded m n codes
  pub meant : Meant a.holdings a.clock (decided_reason x) (writes_of p) codes

-- Select stops
pub record Stops (m m' : List ℕ) (n top : ℕ) (stray demoted : Bool) (x : Decided) : Type 0 where
  pub only : PlanOnly m m' n
  pub right : (floor : Option ℕ) (per local : ℕ) (a : Asked) → Tips a m n floor per top local → Coded m n (strayed a top local) → IsStray a top local stray → IsDemoted a local demoted → Settles (stop a local) a m' n x

-- .. or switches, as codes
pub record Switches (m m' : List ℕ) (n top local f : ℕ) (stray : Bool) : Type 0 where
  pub only : PlanOnly m m' n
  pub right : (floor : Option ℕ) (per : ℕ) (a : Asked) → Tips a m n floor per top local → fork a top local ≡ some f → Coded m n (strayed a top local) → IsStray a top local stray → Coded m' n (switched a top local f)

-- .. the one or the other, from the fork on
pub record Resolves (m m' : List ℕ) (n : ℕ) (floor : Option ℕ) (per top local f : ℕ) (stray demoted : Bool) (x : Decided) : Type 0 where
  pub only : PlanOnly m m' n
  pub right : (a : Asked) → Tips a m n floor per top local → fork a top local ≡ some f → Coded m n (strayed a top local) → IsStray a top local stray → IsDemoted a local demoted
      → Settles (select_at a top local (some f)) a m' n x

-- from the marks on
pub record Settled (m m' : List ℕ) (n : ℕ) (floor : Option ℕ) (per top local : ℕ) (demoted aside : Bool) (x : Decided) : Type 0 where
  pub only : PlanOnly m m' n
  pub right : (a : Asked) → Tips a m n floor per top local → Coded m n (marked a local) → IsDemoted a local demoted → IsAside a local aside → Settles (select_from a (some top) (some local)) a m' n x

-- from both tips on
pub record Selects (m m' : List ℕ) (n : ℕ) (floor : Option ℕ) (per top local : ℕ) (x : Decided) : Type 0 where
  pub only : PlanOnly m m' n
  pub right : (a : Asked) → Tips a m n floor per top local → Coded m n (λ q. 0) → Settles (select_from a (some top) (some local)) a m' n x
