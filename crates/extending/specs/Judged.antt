-- Document 01, "The two plans", Adopt: what is decided of one extension, and what stands in the codes before and after: extensions refused so far are orphaned as stale
-- or left; one that is accepted ends the search.
use Rattle.std.specs.Prelude.{true, false, ◌||◌, List, ◌++◌, ◌≡◌, ℕ, suc, ◌<◌, eqb, ℤ}
use Rattle.std.proofs.Math.Option.{Option, some}
use Rattle.model.specs.Record.{Reason}
use Rattle.model.specs.Holding.{Holdings, is_live, is_canonical}
use Rattle.model.specs.Standing.{winner, canonical, is_linked, best, canonical_count}
use Rattle.model.specs.Walks.{Asked, index, covers_at}
use Rattle.model.specs.Writes.{Write}
use Rattle.model.specs.Adopt as model
use Rattle.block.specs.Records.{reason_means}
use Rattle.state.specs.View.{values_of, cells_of}
use Rattle.pending.specs.Pending.{PendOnly}
use Rattle.walks.specs.Asking.{Asks}
use Rattle.writing.specs.Coded.{Coded}
use Rattle.writing.specs.Meant.{Meant}
use Rattle.writing.specs.Decides.{Ready}
use Rattle.sides.specs.Scanned.{Scanned}
use Rattle.sides.specs.declared.Extension.{Extension}
use Rattle.extending.specs.declared.Judged.{Judged}
use Rattle.extending.specs.declared.Judged.TheVariants.{Refused, Accepted}

-- the changes so far: blocks orphaned as stale, whatever reason the plan will come to
pub record Stales (h : Holdings) (clock : ℤ) (ws : List Write) (f : ℕ → ℕ) : Type 0 where
  pub codes : (q : ℕ) → q < h.room → (eqb (f q) 0 || eqb (f q) 4) ≡ true
  pub off : (q : ℕ) → q < h.room → (f q ≡ 0 → ⊥) → is_canonical (h.cells q) ≡ false
  pub meant : (reason : Reason) → Meant h clock reason ws f

-- refused, with these changes after those so far
pub record Refuses (a : Asked) (m' : List ℕ) (n local leaf : ℕ) (ws : List Write) : Type 0 where
  pub more : List Write
  pub judged : model.judge a local leaf ≡ model.refused more
  pub codes : ℕ → ℕ
  pub coded : Coded m' n codes
  pub stales : Stales a.holdings a.clock (ws ++ more) codes

-- accepted, for a reason, with these changes after those so far and the safe length k
pub record Accepts (a : Asked) (m' : List ℕ) (n local leaf k : ℕ) (reason : Reason) (ws : List Write) : Type 0 where
  pub more : List Write
  pub judged : model.judge a local leaf ≡ model.accepted k more
  pub codes : ℕ → ℕ
  pub coded : Coded m' n codes
  pub meant : Meant a.holdings a.clock reason (ws ++ more) codes

abbrev pub Verdict : Asked → List ℕ → ℕ → ℕ → ℕ → ℕ → List Write → Judged → Type 0
Verdict a m' n local leaf k ws Refused = Refuses a m' n local leaf ws
Verdict a m' n local leaf k ws (Accepted reason) = Accepts a m' n local leaf k (reason_means reason) ws

-- What is judged: the extension of a noncanonical leaf, scanned, with an ancestor and a safe front that is not empty. Local is the canonical best, the leaf is linked.
pub record Judging (a : Asked) (m : List ℕ) (n local leaf : ℕ) (e : Extension) : Type 0 where
  pub local_best : best a.holdings (a.values canonical) ≡ some local
  pub local_live : is_live (cells_of m n local) ≡ true
  pub full : canonical_count a.holdings ≡ suc (index a local)
  pub leaf_linked : is_linked (values_of m n winner leaf) ≡ true
  pub leaf_live : is_live (cells_of m n leaf) ≡ true
  pub scanned : Scanned a n leaf (covers_at a local) e
  pub found : e.ancestor < n
  pub filled : 0 < e.front.length

pub record Judges (m m' : List ℕ) (n local leaf : ℕ) (e : Extension) (floor : Option ℕ) (per : ℕ) (x : Judged) : Type 0 where
  pub only : PendOnly m m' n
  pub right : Ready m n → (a : Asked) → Asks a m n floor per → Judging a m n local leaf e → (ws : List Write) (f : ℕ → ℕ) → Coded m n f → Stales a.holdings a.clock ws f
      → Verdict a m' n local leaf e.front.length ws x
