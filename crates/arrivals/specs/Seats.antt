-- Where a record goes: refused (3, 4, 5), in the room that its hash has, or in new room.
use Rattle.std.specs.Prelude.{◌≡◌, ℕ, ◌<◌, eqb}
use Rattle.std.proofs.Math.Option.{none, some}
use Rattle.amount.specs.Choose.{◌if◌else◌}
use Rattle.model.specs.Record.{Block}
use Rattle.model.specs.Holding.{place_of, free_place}
use Rattle.model.specs.Numbers.{State, max_word, other_header, full}
use Rattle.block.specs.Answers.{refusal_number}
use Rattle.arrivals.specs.declared.Seated.{Seated}
use Rattle.arrivals.specs.declared.Seated.TheVariants.{No, Old, New}

-- the refusals that load and put share, in their order
abbrev pub seat_number : Block → State → ℕ
seat_number b s =
    3 if eqb b.header.index max_word else
    4 if other_header s.holdings b else
    5 if full s.holdings b else 0

abbrev pub Below : ℕ → Seated → Type 0
Below n (No x) = Unit {0}
Below n (Old p) = p < n
Below n (New p) = p < n

-- nothing speaks against it, and its hash has room at p
abbrev pub Known : Block → State → ℕ → Type 0
Known b s p = (seat_number b s ≡ 0) × (place_of s.holdings b.header.hash ≡ some p)

-- nothing speaks against it, its hash has no room, and p is the lowest free place
abbrev pub Roomy : Block → State → ℕ → Type 0
Roomy b s p = (seat_number b s ≡ 0) × (place_of s.holdings b.header.hash ≡ none) × (free_place s.holdings ≡ some p)

abbrev pub Seats : Block → State → Seated → Type 0
Seats b s (No x) = seat_number b s ≡ refusal_number x
Seats b s (Old p) = Known b s p
Seats b s (New p) = Roomy b s p
