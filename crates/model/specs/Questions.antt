-- Document 01, "Numbers given back": the questions and what they are answered. The tree's are answered over values, which are either
-- the tree's own or those worked out from nothing (demand 3 says that the two answers are one).
use Rattle.std.specs.Prelude.{ℕ, Bool, false, List, length, ltb}
use Rattle.std.proofs.Math.Option.{Option, none, some}
use Rattle.amount.specs.Choose.{◌if◌else◌}
use Rattle.model.specs.Lists.{those, each, sorted}
use Rattle.model.specs.Record.{Copy, Block}
use Rattle.model.specs.Holding.{Held, Cell, free, held, Holdings, effective, is_live, hash_of, place_of, effective_count, live_count, changes_since}
use Rattle.model.specs.Standing.{winner, canonical, Value, Values, parent, value_at, best, is_leaf, canonical_count}

-- Tree questions: node, parent, linked, canonical linked, best, canonical best, leaves, canonical count, live count. (Leaves says how long the lent list is.)
pub data TreeQuestion : Type 0 where
  node parent_q linked_q canonical_linked_q : ℕ → TreeQuestion
  best_q canonical_best_q canonical_count_q live_count_q : TreeQuestion
  leaves_q : ℕ → TreeQuestion

-- Effective record, effective count, generation, version and changes ask the holdings. (Changes since (generation, version), and how long the lent list is.)
pub data HoldingsQuestion : Type 0 where
  effective_q : ℕ → HoldingsQuestion
  effective_count_q generation_q version_q : HoldingsQuestion
  changes_q : ℕ → ℕ → ℕ → HoldingsQuestion

-- A question with no block to show answers "none". Leaves and changes are lists of hashes.
pub data Reply : Type 0 where
  shown : Option Block → Reply  -- the block to show, or none
  worth : Value → Reply  -- a linked value, or none
  tip : Option Block → Value → Reply  -- a best block with its value, or none
  counted : ℕ → Reply
  listed : Option (List ℕ) → Reply  -- a list, or none to be had

abbrev pub as_block : Held → Option Copy → Option Block
as_block c none = none
as_block c (some k) = some (record { header = c.header; copy = k })

-- the effective record at a place, and at a place that may be none; the same if it is live
abbrev pub block_at : Cell → Option Block
block_at free = none
block_at (held c) = as_block c (effective c)

abbrev pub effective_at : Holdings → Option ℕ → Option Block
effective_at h none = none
effective_at h (some p) = block_at (h.cells p)

abbrev pub live_at : Holdings → Option ℕ → Option Block
live_at h none = none
live_at h (some p) = block_at (h.cells p) if is_live (h.cells p) else none

abbrev pub only_live : Holdings → Option ℕ → Option ℕ
only_live h none = none
only_live h (some p) = some p if is_live (h.cells p) else none

abbrev pub parent_of : Holdings → Option ℕ → Option ℕ
parent_of h none = none
parent_of h (some p) = parent h p

-- Leaves are listed by rising hash (added).
unfoldable pub lower_hash : Holdings → ℕ → ℕ → Bool
lower_hash h p q = ltb (hash_of (h.cells p)) (hash_of (h.cells q))

abbrev pub leaf_places : Holdings → (ℕ → Value) → List ℕ
leaf_places h v = sorted (lower_hash h) (those (is_leaf h v) h.room)

abbrev pub leaves : Holdings → (ℕ → Value) → List ℕ
leaves h v = each (λ p. hash_of (h.cells p)) (leaf_places h v)

abbrev pub tree_reply : Holdings → Values → TreeQuestion → Reply
tree_reply h v (node x) = shown (live_at h (place_of h x))
tree_reply h v (parent_q x) = shown (live_at h (parent_of h (only_live h (place_of h x))))
tree_reply h v (linked_q x) = worth (value_at (v winner) (place_of h x))
tree_reply h v (canonical_linked_q x) = worth (value_at (v canonical) (place_of h x))
tree_reply h v best_q = tip (live_at h (best h (v winner))) (value_at (v winner) (best h (v winner)))
tree_reply h v canonical_best_q = tip (live_at h (best h (v canonical))) (value_at (v canonical) (best h (v canonical)))
tree_reply h v canonical_count_q = counted (canonical_count h)
tree_reply h v live_count_q = counted (live_count h)
tree_reply h v (leaves_q lent) = listed (some (leaves h (v winner)))

abbrev pub holdings_reply : Holdings → HoldingsQuestion → Reply
holdings_reply h (effective_q x) = shown (effective_at h (place_of h x))
holdings_reply h effective_count_q = counted (effective_count h)
holdings_reply h generation_q = counted h.generation
holdings_reply h version_q = counted h.version
holdings_reply h (changes_q g v lent) = listed (changes_since h g v)

-- 13 LIST: lent list too short: leaves and changes need what they hold.
abbrev pub too_short : ℕ → Reply → Bool
too_short lent (shown b) = false
too_short lent (worth v) = false
too_short lent (tip b v) = false
too_short lent (counted n) = false
too_short lent (listed none) = false
too_short lent (listed (some l)) = ltb lent (length l)

abbrev pub tree_lent : TreeQuestion → ℕ
tree_lent (node x) = 0
tree_lent (parent_q x) = 0
tree_lent (linked_q x) = 0
tree_lent (canonical_linked_q x) = 0
tree_lent best_q = 0
tree_lent canonical_best_q = 0
tree_lent canonical_count_q = 0
tree_lent live_count_q = 0
tree_lent (leaves_q lent) = lent

abbrev pub holdings_lent : HoldingsQuestion → ℕ
holdings_lent (effective_q x) = 0
holdings_lent effective_count_q = 0
holdings_lent generation_q = 0
holdings_lent version_q = 0
holdings_lent (changes_q g v lent) = lent
