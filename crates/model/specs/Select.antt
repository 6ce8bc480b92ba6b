-- Document 01, "The two plans", Select: sentence by sentence. Local is the canonical best; its value is its canonical linked one, best's its linked one.
use Rattle.std.specs.Prelude.{ℕ, suc, Bool, not, ◌&&◌, ◌||◌, List, [], ◌∷◌, ◌++◌, eqb}
use Rattle.std.proofs.Math.Option.{Option, none, some}
use Rattle.amount.specs.Choose.{◌if◌else◌}
use Rattle.model.specs.Places.{is_some}
use Rattle.model.specs.Lists.{elem, those, only, all, any, each, is_empty}
use Rattle.model.specs.Record.{off_spine, competing_fork}
use Rattle.model.specs.Standing.{Spine, winner, canonical, Value, unlinked, linked, best, canonical_count, proofs_ok}
use Rattle.model.specs.Comparing.{Work, known, unknown, Side, Comparison, choose_verified, is_adopted}
use Rattle.model.specs.Walks.{Asked, index, hash, is_canon, covers_at, walk_of, fork, above, under, below}
use Rattle.model.specs.Writes.{promote, demote, Write, ◌at◌, copy_after, Plan, scan, apply}

abbrev pub on : Asked → ℕ → ℕ → Bool
on a p q = elem q (walk_of a p)

-- If canonical blocks are not local index + 1 in number, those off the local walk ..
unfoldable pub off : Asked → ℕ → List ℕ
off a local = [] if eqb (canonical_count a.holdings) (suc (index a local)) else those (λ p. is_canon a p && not (on a local p)) a.holdings.room

-- .. kept aside at or below it.
abbrev pub aside : Asked → ℕ → List ℕ
aside a local = only (λ p. under a.floor (index a p)) (off a local)

-- .. are demoted ("Off the verified spine") above the floor or with no floor, ..
abbrev pub demotions : Asked → ℕ → List Write
demotions a local = each (λ p. demote off_spine at p) (only (λ p. not (under a.floor (index a p))) (off a local))

-- "Stop" means the demotions so far and nothing more; `changed` is .. else 1 if something was demoted, else 0.
abbrev pub some? : List Write → ℕ
some? [] = 0
some? (w ∷ l) = 1

abbrev pub stop : Asked → ℕ → Plan
stop a local = apply (some? (demotions a local)) (demotions a local)

-- If local's proofs are ok, stop when a floor is given and either the fork is below both floor and local or a block aside is off best's walk,
-- and also, floor or not, when local covers and best doesn't.
unfoldable pub held_back : Asked → ℕ → ℕ → ℕ → Bool
held_back a top local f = proofs_ok (a.values canonical local) &&
    (is_some a.floor && (below a.floor (index a f) (index a local) || any (λ p. not (on a top p)) (aside a local))
    || covers_at a local && not (covers_at a top))

-- Compare, a side known exactly if its proofs are ok.
abbrev pub scored : Value → Work
scored unlinked = unknown
scored (linked w ok) = known w if ok else unknown

abbrev pub side_of : Asked → Spine → ℕ → Side
side_of a w p = record { work = scored (a.values w p); index = index a p; hash = hash a p }

abbrev pub compared : Asked → ℕ → ℕ → Comparison
compared a top local = choose_verified (side_of a canonical local) (side_of a winner top)

-- Stop unless best is adopted, or the fork is local and all aside are on best's walk.
unfoldable pub goes_on : Asked → ℕ → ℕ → ℕ → Bool
goes_on a top local f = is_adopted (compared a top local).outcome || eqb f local && all (on a top) (aside a local)

-- Otherwise promote best's walk above the fork where not canonical by now, and demote as "Competing fork" local's walk above it and those aside
-- that are off best's walk. `changed` is 1 after such a switch.
abbrev pub promotions : Asked → ℕ → ℕ → ℕ → List Write
promotions a top local f = each (λ p. promote at p) (only (λ p. not (copy_after a.holdings (demotions a local) p).canonical) (above a f top))

abbrev pub competitors : Asked → ℕ → ℕ → ℕ → List Write
competitors a top local f = each (λ p. demote competing_fork at p) (above a f local ++ only (λ p. not (on a top p)) (aside a local))

abbrev pub switch : Asked → ℕ → ℕ → ℕ → Plan
switch a top local f = apply 1 (demotions a local ++ promotions a top local f ++ competitors a top local f)

-- Scan exactly if .. no common ancestor when one is sought.
unfoldable pub select_at : Asked → ℕ → ℕ → Option ℕ → Plan
select_at a top local none = scan
select_at a top local (some f) =
    stop a local if held_back a top local f else
    stop a local if not (goes_on a top local f) else
    switch a top local f

-- Scan exactly if there is no best, no canonical best, .. Stop if best is local and none is aside. Find the fork.
unfoldable pub select_from : Asked → Option ℕ → Option ℕ → Plan
select_from a none local = scan
select_from a (some top) none = scan
select_from a (some top) (some local) =
    stop a local if eqb top local && is_empty (aside a local) else
    select_at a top local (fork a top local)

unfoldable pub select : Asked → Plan
select a = select_from a (best a.holdings (a.values winner)) (best a.holdings (a.values canonical))
