-- A plan up to its entries: what it came to, and what it promises of any list that they then go into, whatever that is made of.
use Rattle.std.specs.Prelude.{List, ◌≡◌, ℕ, ℤ, length}
use Rattle.model.specs.Plans.{PlanCall}
use Rattle.model.specs.Writes as model
use Rattle.block.specs.Records.{reason_means}
use Rattle.block.specs.declared.Planned.{Planned}
use Rattle.block.specs.declared.Planned.TheVariants.{Scan, Apply}
use Rattle.block.specs.declared.Reason.{Reason}
use Rattle.block.specs.declared.Reason.TheVariants.{OffSpine}
use Rattle.memory.specs.Layout.{Laid}
use Rattle.memory.specs.Words.{word}
use Rattle.entries.specs.declared.Entry.{Entry}
use Rattle.entries.specs.Handing.{meanings, HandsOut}
use Rattle.writing.specs.declared.Decided.{Decided}
use Rattle.writing.specs.declared.Decided.TheVariants.{Scan as NoPlan, Apply as ThePlan}
use Rattle.plans.specs.declared.Begun.{Begun}
use Rattle.plans.specs.declared.Begun.TheVariants.{Answered, Writes}
use Rattle.plans.specs.Lent.{WritesOut}
use Rattle.plans.specs.Plan.{handed, Replies}

abbrev pub begun_of : ℕ → Decided → Begun
begun_of n NoPlan = Answered Scan
begun_of n (ThePlan changed reason) = Writes n changed reason

abbrev pub room_in : Begun → ℕ
room_in (Answered x) = 0
room_in (Writes n changed reason) = n

abbrev pub reason_in : Begun → Reason
reason_in (Answered x) = OffSpine
reason_in (Writes n changed reason) = reason

abbrev pub planned_of : Begun → ℕ → Planned
planned_of (Answered x) k = x
planned_of (Writes n changed reason) k = Apply changed k

-- an answer is the plan's, at any time and with anything in the list, and has no entries; entries are the plan's once they are handed out, at any time, in a list of so many places
pub record Opens (c : ℤ → PlanCall) (places : ℕ) (m m₁ : List ℕ) (b : Begun) : Type 0 where
  pub laid : (room_in b ≡ 0 → ⊥) → Laid m₁ (room_in b)
  pub answered : room_in b ≡ 0 → (clock : ℤ) (after : List model.Entry) (k : ℕ) → Replies (c clock) m m₁ (word m 0) after (planned_of b k)
  pub none : room_in b ≡ 0 → (k : ℕ) → handed (planned_of b k) ≡ 0
  pub writes : (room_in b ≡ 0 → ⊥) → (clock : ℤ) (m₂ : List ℕ) (es es' : List Entry) (k : ℕ) → length es ≡ places → HandsOut m₁ m₂ (room_in b) clock (reason_means (reason_in b)) es es' k
      → Replies (c clock) m m₂ (word m 0) (meanings es') (planned_of b k)

-- the entries of a plan in a list of words
pub record Finishes (m m' : List ℕ) (b : Begun) (clock : ℤ) (list list' : List ℕ) (x : Planned) : Type 0 where
  pub count : ℕ
  pub is : x ≡ planned_of b count
  pub none : room_in b ≡ 0 → (m' ≡ m) × (list' ≡ list)
  pub some : (room_in b ≡ 0 → ⊥) → WritesOut m m' (room_in b) clock (reason_means (reason_in b)) list list' count
