-- Document 01, "The two plans", Adopt: the codes that stand after an extension was refused or accepted, and what its comparison comes to.
use Rattle.std.specs.Prelude.{Bool, true, List, ◌≡◌, ℕ, ◌+◌, eqb, ltb, leb}
use Rattle.std.proofs.Math.Option.{Option, none, some}
use Rattle.amount.specs.Choose.{◌if◌else◌}
use Rattle.model.specs.Adopt.{ours, peers}
use Rattle.model.specs.Comparing.{Comparison, choose_verified}
use Rattle.model.specs.Holding.{Holdings, is_live, index_of}
use Rattle.model.specs.Lists.{elem, only, find}
use Rattle.model.specs.Standing.{canonical}
use Rattle.model.specs.Walks.{Asked, walk}
use Rattle.state.specs.Sound.{SoundAt, Used}
use Rattle.state.specs.View.{cells_of, view_at}
use Rattle.extending.specs.Orphans.{staled}
use Rattle.sides.specs.Sides.{Above, Peer}

-- ---- a walk above a block, written ----

-- the model's `above`, of the holdings alone
abbrev pub above_in : Holdings → ℕ → ℕ → List ℕ
above_in h f top = only (λ q. ltb (index_of (h.cells f)) (index_of (h.cells q))) (walk h top)

-- each of its blocks has a code by what stood there, and elsewhere stands what stood
abbrev pub written_above : Holdings → ℕ → ℕ → (ℕ → ℕ → ℕ) → (ℕ → ℕ) → ℕ → ℕ
written_above h f top c g q = c q (g q) if elem q (above_in h f top) else g q

-- the three places that such a step is told of: two have blocks that are live, one a block
pub record Ends (m : List ℕ) (n p f q : ℕ) : Type 0 where
  pub first_live : is_live (cells_of m n p) ≡ true
  pub used : Used m f
  pub last_live : is_live (cells_of m n q) ≡ true

-- ---- our walk orphaned, the safe front promoted ----

-- the highest block of a walk that is no higher than i
abbrev pub level_of : Holdings → ℕ → ℕ → Option ℕ
level_of h i top = find (λ p. leb (index_of (h.cells p)) i) (walk h top)

abbrev pub level_from : Holdings → ℕ → Option ℕ → Option ℕ
level_from h i none = none
level_from h i (some top) = level_of h i top

-- it is the competing one if it is as high
abbrev pub rival_code : Holdings → ℕ → Option ℕ → ℕ
rival_code h i none = 6
rival_code h i (some p) = 7 + p if eqb (index_of (h.cells p)) i else 6

abbrev pub orphan_code : Holdings → ℕ → ℕ → ℕ → ℕ
orphan_code h top q was = rival_code h (index_of (h.cells q)) (level_of h (index_of (h.cells q)) top)

abbrev pub promote_code : ℕ → ℕ → ℕ
promote_code q was = 5 if eqb was 4 else 1

abbrev pub accepted_to : Holdings → ℕ → ℕ → ℕ → (ℕ → ℕ) → ℕ → ℕ
accepted_to h local f top g = written_above h f top promote_code (written_above h f local (orphan_code h top) g)

-- ---- refused ----

abbrev pub refused_to : Holdings → ℕ → Bool → (ℕ → ℕ) → ℕ → ℕ
refused_to h leaf stale g q = staled h leaf g q if stale else g q

-- ---- compared ----

abbrev pub Compares : List ℕ → ℕ → ℕ → ℕ → ℕ → Bool → Comparison → Type 0
Compares m n local f top meets c = SoundAt m n → Used m local → Used m f → (a : Asked) → a.holdings ≡ (view_at m n).holdings → a.values ≡ (view_at m n).values → Above a canonical local f → (leaf p : ℕ) (l : List ℕ) → Used m leaf → Peer a leaf local f top meets p l → c ≡ choose_verified (ours a local f) (peers a p l)
