-- Document 01, "The two plans", Adopt: sentence by sentence. Local is the canonical best.
use Rattle.std.specs.Prelude.{ℕ, suc, ◌+◌, ◌*◌, Bool, not, ◌&&◌, List, [], ◌∷◌, ◌++◌, reverse, length, eqb, leb}
use Rattle.std.proofs.Math.Option.{Option, none, some}
use Rattle.amount.specs.Choose.{◌if◌else◌}
use Rattle.model.specs.Lists.{those, front, find, last, total, all, each, sorted}
use Rattle.model.specs.Record.{stale_fork}
use Rattle.model.specs.Standing.{winner, canonical, best, outranks, is_leaf, canonical_count, proofs_ok}
use Rattle.model.specs.Comparing.{known, unknown, Side, Comparison, choose_verified, is_adopted, saturated}
use Rattle.model.specs.Walks.{Asked, index, hash, is_canon, covers_at, meets_at, actual_at, walk_of, above, below}
use Rattle.model.specs.Writes.{promote, orphan, Write, ◌at◌, Plan, scan, apply}

-- Leaves go by work, index (both falling), hash (rising): the order of best.
unfoldable pub leaves_of : Asked → List ℕ
leaves_of a = sorted (outranks a.holdings (a.values winner)) (those (is_leaf a.holdings (a.values winner)) a.holdings.room)

-- From a noncanonical leaf, follow parents until the first canonical block; .. That block is the ancestor, the blocks passed are the extension, bottom first.
abbrev pub ancestor : Asked → ℕ → Option ℕ
ancestor a leaf = find (is_canon a) (walk_of a leaf)

abbrev pub extension : Asked → ℕ → List ℕ
extension a leaf = reverse (front (λ p. not (is_canon a p)) (walk_of a leaf))

-- The safe front of that extension is all of it unless local covers; then the longest front whose every block covers.
abbrev pub safe_front : Asked → ℕ → List ℕ → List ℕ
safe_front a local ext = front (covers_at a) ext if covers_at a local else ext

-- Else compare work above the ancestor: ours runs up the local walk until a block misses its target, the last one before that being its tip
-- (none: unknown, with local's tip); ..
unfoldable pub our_side : Asked → ℕ → List ℕ → Side
our_side a local [] = record { work = unknown; index = index a local; hash = hash a local }
our_side a local (p ∷ l) = record { work = known (total (actual_at a) (p ∷ l)); index = index a (last p l); hash = hash a (last p l) }

abbrev pub ours : Asked → ℕ → ℕ → Side
ours a local f = our_side a local (front (meets_at a) (reverse (above a f local)))

-- .. the peer's is the safe front's, its tip the front's last block, unknown if any block in it misses.
abbrev pub peers : Asked → ℕ → List ℕ → Side
peers a p l = record { work = known (total (actual_at a) (p ∷ l)) if all (meets_at a) (p ∷ l) else unknown; index = index a (last p l); hash = hash a (last p l) }

-- a leaf is passed on, or its extension is refused with these changes, or accepted with these and its safe length
pub data Verdict : Type 0 where
  pass_on : Verdict
  refused : List Write → Verdict
  accepted : ℕ → List Write → Verdict

-- It is refused if a floor is given, local's proofs are ok and the ancestor is below both floor and local.
abbrev pub floor_refuses : Asked → ℕ → ℕ → Bool
floor_refuses a local f = proofs_ok (a.values canonical local) && below a.floor (index a f) (index a local)

-- A refused extension whose bottom + 2 × n (saturating) ≤ local index is orphaned whole as stale, with no competing hash; ..
abbrev pub is_stale : ℕ → ℕ → ℕ → Bool
is_stale n bottom local = leb (saturated (bottom + saturated (2 * n))) local

unfoldable pub refusal : Asked → ℕ → List ℕ → ℕ → Verdict
refusal a local ext bottom = refused (each (λ p. orphan a.clock stale_fork none at p) ext if is_stale a.per_epoch (index a bottom) (index a local) else [])

-- .. our walk above the ancestor is orphaned with the comparison's reason and the safe block of equal index, if any, as competing hash,
-- then the safe front is promoted.
abbrev pub hash_of_some : Asked → Option ℕ → Option ℕ
hash_of_some a none = none
hash_of_some a (some p) = some (hash a p)

abbrev pub rival : Asked → List ℕ → ℕ → Option ℕ
rival a safe q = hash_of_some a (find (λ p. eqb (index a p) (index a q)) safe)

unfoldable pub acceptance : Asked → ℕ → ℕ → List ℕ → Comparison → Verdict
acceptance a local f safe c = accepted (length safe) (each (λ q. orphan a.clock c.reason (rival a safe q) at q) (above a f local) ++ each (λ p. promote at p) safe)

-- Accepted exactly when the peer is adopted: ..
unfoldable pub decided : Asked → ℕ → ℕ → List ℕ → ℕ → List ℕ → Comparison → Verdict
decided a local f ext p l c = acceptance a local f (p ∷ l) c if is_adopted c.outcome else refusal a local ext p

-- Empty: pass on.
unfoldable pub judge_safe : Asked → ℕ → ℕ → List ℕ → List ℕ → Verdict
judge_safe a local f ext [] = pass_on
judge_safe a local f ext (p ∷ l) = refusal a local ext p if floor_refuses a local f else decided a local f ext p l (choose_verified (ours a local f) (peers a p l))

-- .. with none, pass on.
unfoldable pub judge_above : Asked → ℕ → List ℕ → Option ℕ → Verdict
judge_above a local ext none = pass_on
judge_above a local ext (some f) = judge_safe a local f ext (safe_front a local ext)

-- From a noncanonical leaf, ..
unfoldable pub judge : Asked → ℕ → ℕ → Verdict
judge a local leaf = pass_on if is_canon a leaf else judge_above a local (extension a leaf) (ancestor a leaf)

-- .. the search goes on. The first accepted one ends it, with `changed` its safe length, otherwise 0.
abbrev pub first_those : List Write → Plan → Plan
first_those ws scan = scan
first_those ws (apply n l) = apply n (ws ++ l)

abbrev pub then : Verdict → Plan → Plan
then pass_on rest = rest
then (refused ws) rest = first_those ws rest
then (accepted n ws) rest = apply n ws

unfoldable pub search_leaves : Asked → ℕ → List ℕ → Plan
search_leaves a local [] = apply 0 []
search_leaves a local (leaf ∷ rest) = then (judge a local leaf) (search_leaves a local rest)

-- Scan exactly if there is no canonical best or the canonical count is not local index + 1.
unfoldable pub adopt_from : Asked → Option ℕ → Plan
adopt_from a none = scan
adopt_from a (some local) = search_leaves a local (leaves_of a) if eqb (canonical_count a.holdings) (suc (index a local)) else scan

unfoldable pub adopt : Asked → Plan
adopt a = adopt_from a (best a.holdings (a.values canonical))
