-- Document 01, "The two plans": the changes that a plan makes to records, and the entries that it hands back.
use Rattle.std.specs.Prelude.{ℕ, Bool, true, false, ◌||◌, List, [], ◌∷◌, ℤ, eqb, ltb}
use Rattle.std.proofs.Math.Option.{Option, none, some}
use Rattle.amount.specs.Choose.{◌if◌else◌}
use Rattle.model.specs.Places.{then_by}
use Rattle.model.specs.Lists.{those, each, sorted}
use Rattle.model.specs.Record.{Reason, Copy}
use Rattle.model.specs.Holding.{Cell, free, held, Holdings, effective, index_of, hash_of}

pub data Change : Type 0 where
  promote : Change
  demote : Reason → Change
  orphan : ℤ → Reason → Option ℕ → Change  -- the clock, the reason, the competing hash

-- Promote sets canonical, clears orphaned and reason, and keeps orphaned time and competing hash. Demote clears both flags and sets the reason. Orphan sets all five.
unfoldable pub changed : Change → Copy → Copy
changed promote k = record { orphaned = false; canonical = true; time = k.time; reason = none; competing = k.competing }
changed (demote r) k = record { orphaned = false; canonical = false; time = k.time; reason = some r; competing = k.competing }
changed (orphan t r x) k = record { orphaned = true; canonical = false; time = some t; reason = some r; competing = x }

pub record Write : Type 0 where
  pub place : ℕ
  pub change : Change

abbrev pub ◌at◌ : Change → ℕ → Write
◌at◌ c p = record { place = p; change = c }

infix 6 ◌at◌
-- Later changes to one block build on earlier ones: the copy of the block at p after the changes, earliest first.
unfoldable pub after_all : List Write → ℕ → Copy → Copy
after_all [] p k = k
after_all (w ∷ l) p k = after_all l p (changed w.change k if eqb w.place p else k)

unfoldable pub touched : List Write → ℕ → Bool
touched [] p = false
touched (w ∷ l) p = eqb w.place p || touched l p

-- the effective copy; a place with none has a blank one, which no plan reads
abbrev pub blank : Copy
blank = record { orphaned = false; canonical = false; time = none; reason = none; competing = none }

abbrev pub or_blank : Option Copy → Copy
or_blank none = blank
or_blank (some k) = k

unfoldable pub copy_of : Cell → Copy
copy_of free = blank
copy_of (held c) = or_blank (effective c)

abbrev pub copy_after : Holdings → List Write → ℕ → Copy
copy_after h ws p = after_all ws p (copy_of (h.cells p))

-- An entry is the hash with the two flags and the optional three as they stand after the plan.
pub record Entry : Type 0 where
  pub hash : ℕ
  pub copy : Copy

abbrev pub entry_at : Holdings → List Write → ℕ → Entry
entry_at h ws p = record { hash = hash_of (h.cells p); copy = copy_after h ws p }

-- The plan is handed back as entries .., ordered by index then hash.
unfoldable pub earlier : Holdings → ℕ → ℕ → Bool
earlier h p q = then_by (index_of (h.cells p)) (index_of (h.cells q)) (ltb (hash_of (h.cells p)) (hash_of (h.cells q)))

abbrev pub places_of : Holdings → List Write → List ℕ
places_of h ws = sorted (earlier h) (those (touched ws) h.room)

unfoldable pub entries : Holdings → List Write → List Entry
entries h ws = each (entry_at h ws) (places_of h ws)

-- what a plan gives: scan, or its changes and `changed`
pub data Plan : Type 0 where
  scan : Plan
  apply : ℕ → List Write → Plan
