-- Document 01, "Standing in the tree": what a sync works out, and in which order. A turn works out one pending place.
use Rattle.std.specs.Prelude.{ℕ, zero, suc, ◌+◌, ◌*◌, Bool, true, false, not, ◌&&◌, ◌||◌, List, eqb, ltb}
use Rattle.std.specs.Bool.{beq}
use Rattle.std.proofs.Math.Option.{Option, none, some}
use Rattle.amount.specs.Choose.{◌if◌else◌}
use Rattle.model.specs.Places.{pick, then_by, put_at}
use Rattle.model.specs.Lists.{elem}
use Rattle.model.specs.Holding.{Cell, free, held, Holdings, is_live, hash_of, index_of}
use Rattle.model.specs.Standing.{winner, canonical, Value, unlinked, linked, Values, standing, parent, value_at}

-- places to be worked out
abbrev pub Pending : Type 0
Pending = ℕ → Bool

-- a place's value by the values that stand
unfoldable pub work_out : Holdings → Values → Values
work_out h v w p = standing w (h.cells p) (value_at (v w) (parent h p))

abbrev pub same : Value → Value → Bool
same unlinked unlinked = true
same unlinked (linked b y) = false
same (linked a x) unlinked = false
same (linked a x) (linked b y) = eqb a b && beq x y

-- .. whose linked or canonical linked value changed on being worked out ..
unfoldable pub moves : Holdings → Values → ℕ → Bool
moves h v p = not (same (v winner p) (work_out h v winner p)) || not (same (v canonical p) (work_out h v canonical p))

unfoldable pub worked : Holdings → Values → ℕ → Values
worked h v p w = put_at (v w) p (work_out h v w p)

-- .. every live block whose previous hash names a block .., index 0 included.
unfoldable pub follows : Cell → Cell → Bool
follows free d = false
follows (held c) free = false
follows (held c) (held d) = is_live (held d) && eqb d.header.prev c.header.hash

-- After its turn p is pending no more, and if its value changed, every live block that names it is; one named again is worked out again.
unfoldable pub after : Holdings → Values → ℕ → Pending → Pending
after h v p pend q = pend q && not (eqb q p) || moves h v p && follows (h.cells p) (h.cells q)

-- Pending ones go by lowest index, then hash, a hash no longer live counting as index 0.
abbrev pub turn_of : Cell → ℕ
turn_of c = index_of c if is_live c else 0

unfoldable pub goes_before : Cell → Cell → Bool
goes_before c d = then_by (turn_of c) (turn_of d) (ltb (hash_of c) (hash_of d))

abbrev pub next : Holdings → Pending → Option ℕ
next h pend = pick pend (λ p q. goes_before (h.cells p) (h.cells q)) h.room

-- at most so many turns
unfoldable pub settle : ℕ → Holdings → Values → Pending → Values
settle zero h v pend = v
settle (suc turns) h v pend = elim (next h pend) [ none ↦ v | some p ↦ settle turns h (worked h v p) (after h v p pend) ]

-- More turns than it can take in a room of n (proofs/Turns.antt). The number is no part of the meaning: proofs/Settled.antt, `settled_once`.
unfoldable pub turns : ℕ → ℕ
turns n = suc n * (n * n) + n

-- all pending places worked out, until none is pending
unfoldable pub settled : Holdings → Values → Pending → Values
settled h v pend = settle (turns h.room) h v pend

-- An incremental sync works out anew the changed hashes ..; a rebuild ("Holding blocks": none to be had) begins with no values and every live block.
unfoldable pub changed_in : List ℕ → Cell → Bool
changed_in l free = false
changed_in l (held c) = elem c.header.hash l

unfoldable pub relinked : Holdings → Values → Option (List ℕ) → Values
relinked h v (some l) = settled h v (λ p. changed_in l (h.cells p))
relinked h v none = settled h (λ w p. unlinked) (λ p. is_live (h.cells p))
