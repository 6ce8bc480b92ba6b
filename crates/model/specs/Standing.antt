-- Document 01, "Standing in the tree": what its rules give for the records and answers held, worked out from nothing.
use Rattle.std.specs.Prelude.{ℕ, zero, suc, ◌+◌, Bool, true, false, not, ◌&&◌, eqb, ltb, leb}
use Rattle.std.proofs.Math.Option.{Option, none, some}
use Rattle.amount.specs.Choose.{◌if◌else◌}
use Rattle.amount.specs.Amounts.{Amount, readable, unreadable, limit}
use Rattle.model.specs.Places.{is_some, first, pick, then_by, count}
use Rattle.model.specs.Record.{Header}
use Rattle.model.specs.Holding.{Answer, eligible, for_now, ineligible, Held, Cell, free, held, Holdings, is_live, is_canonical, hash_of, index_of}

-- ---- parent ----

-- d is named by c's previous hash, and its index is one less
unfoldable pub names : Cell → Cell → Bool
names free d = false
names (held c) free = false
names (held c) (held d) = eqb d.header.hash c.header.prev && eqb (suc d.header.index) c.header.index

-- Parent: the live block named by the previous hash whose index is one less. Index 0 has none.
unfoldable pub parent : Holdings → ℕ → Option ℕ
parent h p = first (λ q. names (h.cells p) (h.cells q) && is_live (h.cells q)) h.room

-- ---- meets target ----

-- Meets target: both amounts readable, target above 0, actual at least target.
abbrev pub meets : Amount → Amount → Bool
meets (readable t) (readable a) = ltb 0 t && leb t a
meets (readable t) unreadable = false
meets unreadable (readable a) = false
meets unreadable unreadable = false

abbrev pub meets_target : Header → Bool
meets_target b = meets b.target b.actual

-- ---- linked, and canonical linked ----

-- The two are one rule over two spines: all live blocks with their answers, and canonical blocks only.
pub data Spine : Type 0 where
  winner canonical : Spine

-- a linked value: none, or the work and whether the proofs are ok
pub data Value : Type 0 where
  unlinked : Value
  linked : ℕ → Bool → Value

abbrev pub is_linked : Value → Bool
is_linked unlinked = false
is_linked (linked w ok) = true

abbrev pub work_of : Value → ℕ
work_of unlinked = 0
work_of (linked w ok) = w

abbrev pub proofs_ok : Value → Bool
proofs_ok unlinked = false
proofs_ok (linked w ok) = ok

-- .. above, the parent must be linked, work is the parent's plus the actual, and proofs are ok if the parent's are and it meets target.
-- A sum over 128 bits: not linked.
abbrev pub on_parent : Header → ℕ → Value → Value
on_parent b a unlinked = unlinked
on_parent b a (linked w ok) = linked (w + a) (ok && meets_target b) if ltb (w + a) limit else unlinked

-- Linked: .. actual readable ..; at index 0 work is the actual and proofs are ok; ..
abbrev pub on_actual : Header → Value → Amount → Value
on_actual b below unreadable = unlinked
on_actual b below (readable a) = linked a true if eqb b.index 0 else on_parent b a below

abbrev pub not_ineligible : Answer → Bool
not_ineligible eligible = true
not_ineligible for_now = true
not_ineligible ineligible = false

-- Linked: live, .., answer not ineligible. Canonical linked: the same over canonical blocks only, with no eligibility.
abbrev pub may : Spine → Held → Bool
may winner c = is_live (held c) && not_ineligible c.answer
may canonical c = is_canonical (held c)

-- the rule for one place, given the value of its parent, `unlinked` if it has none
unfoldable pub standing : Spine → Cell → Value → Value
standing w free below = unlinked
standing w (held c) below = on_actual c.header below c.header.actual if may w c else unlinked

abbrev pub value_at : (ℕ → Value) → Option ℕ → Value
value_at v none = unlinked
value_at v (some q) = v q

-- values by place, of both spines
abbrev pub Values : Type 0
Values = Spine → ℕ → Value

-- the value of a place whose index is i
unfoldable pub at_index : ℕ → Holdings → Spine → ℕ → Value
at_index zero h w p = standing w (h.cells p) unlinked
at_index (suc i) h w p = standing w (h.cells p) (value_at (at_index i h w) (parent h p))

-- linked and canonical linked, from the records and answers held alone
unfoldable pub from_nothing : Holdings → Values
from_nothing h w p = at_index (index_of (h.cells p)) h w p

-- A canonical block is a live one with the canonical flag; the canonical count is their number.
abbrev pub canonical_count : Holdings → ℕ
canonical_count h = count (λ p. is_canonical (h.cells p)) h.room

-- ---- best and leaf ----

-- Best (of either): greatest work, then greater index, then lower hash.
unfoldable pub outranks : Holdings → (ℕ → Value) → ℕ → ℕ → Bool
outranks h v p q = then_by (work_of (v q)) (work_of (v p)) (then_by (index_of (h.cells q)) (index_of (h.cells p)) (ltb (hash_of (h.cells p)) (hash_of (h.cells q))))

abbrev pub best : Holdings → (ℕ → Value) → Option ℕ
best h v = pick (λ p. is_linked (v p)) (outranks h v) h.room

-- Leaf: linked, and no linked block has it as parent.
abbrev pub is_place : ℕ → Option ℕ → Bool
is_place p none = false
is_place p (some q) = eqb q p

unfoldable pub is_leaf : Holdings → (ℕ → Value) → ℕ → Bool
is_leaf h v p = is_linked (v p) && not (is_some (first (λ q. is_linked (v q) && is_place p (parent h q)) h.room))
