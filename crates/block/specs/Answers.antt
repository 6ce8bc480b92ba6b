-- Document 01, "Numbers given back": the number and the values of each case of an answer; and "Comparing two chains": its sides and its outcome.
-- A refusal carries its number only, so what it replies is never asked.
use Rattle.std.specs.Prelude.{ℕ, List, ltb, leb, length, take}
use Rattle.std.proofs.Math.Option.{Option, none, some}
use Rattle.amount.specs.Choose.{◌if◌else◌}
use Rattle.amount.specs.Value.{value}
use Rattle.model.specs.Comparing as comparing
use Rattle.model.specs.Holding as holding
use Rattle.model.specs.Plans.{PlanReply, scanned, applied}
use Rattle.model.specs.Questions as model
use Rattle.model.specs.Standing.{unlinked, linked}
use Rattle.model.specs.Writes.{Entry}
use Rattle.block.specs.Records.{block_means, hash_means, reason_means}
use Rattle.block.specs.declared.Store.{Store}
use Rattle.block.specs.declared.Store.TheVariants.{Active, Forks, Canon}
use Rattle.block.specs.declared.Stored.{Stored}
use Rattle.block.specs.declared.Stored.TheVariants.{In, NoSuch as NoStore}
use Rattle.block.specs.declared.Answer.{Answer}
use Rattle.block.specs.declared.Answer.TheVariants.{Eligible, ForNow, Ineligible}
use Rattle.block.specs.declared.Answered.{Answered}
use Rattle.block.specs.declared.Answered.TheVariants.{With, NoSuch as NoAnswer}
use Rattle.block.specs.declared.Refusal.{Refusal}
use Rattle.block.specs.declared.Refusal.TheVariants.{Room, Kind, Index, Header, Full, Version, Loaded, Generation, Unknown, Value, Final, Stale, List as Short}
use Rattle.block.specs.declared.Done.{Done}
use Rattle.block.specs.declared.Done.TheVariants.{Done as Accepted, Refused}
use Rattle.block.specs.declared.Shown.{Shown}
use Rattle.block.specs.declared.Shown.TheVariants.{Block as ShownBlock, None as ShownNone, Refused as ShownRefused}
use Rattle.block.specs.declared.Worth.{Worth}
use Rattle.block.specs.declared.Worth.TheVariants.{Linked, None as WorthNone, Refused as WorthRefused}
use Rattle.block.specs.declared.Tip.{Tip}
use Rattle.block.specs.declared.Tip.TheVariants.{Best, None as TipNone, Refused as TipRefused}
use Rattle.block.specs.declared.Counted.{Counted}
use Rattle.block.specs.declared.Counted.TheVariants.{Count as CountedAt, Refused as CountRefused}
use Rattle.block.specs.declared.Listed.{Listed}
use Rattle.block.specs.declared.Listed.TheVariants.{Count as ListedAt, None as ListNone, Refused as ListRefused}
use Rattle.block.specs.declared.Planned.{Planned}
use Rattle.block.specs.declared.Planned.TheVariants.{Scan, Apply, Refused as PlanRefused}
use Rattle.block.specs.declared.Work.{Work}
use Rattle.block.specs.declared.Work.TheVariants.{Known, Unknown as UnknownWork}
use Rattle.block.specs.declared.Side.{Side}
use Rattle.block.specs.declared.Outcome.{Outcome}
use Rattle.block.specs.declared.Outcome.TheVariants.{Equal, KeepLocal, AdoptPeer}
use Rattle.block.specs.declared.Choice.{Choice}

-- ---- stores and eligibility answers ----

-- Three stores: active 0, forks 1, canon 2.
abbrev pub store_number : Store → ℕ
store_number Active = 0
store_number Forks = 1
store_number Canon = 2

abbrev pub store_means : Store → holding.Store
store_means Active = holding.active
store_means Forks = holding.forks
store_means Canon = holding.canon

abbrev pub stored_means : Stored → Option holding.Store
stored_means (In k) = some (store_means k)
stored_means NoStore = none

-- Answers: 0 eligible, 1 eligible for now, 2 ineligible.
abbrev pub answer_number : Answer → ℕ
answer_number Eligible = 0
answer_number ForNow = 1
answer_number Ineligible = 2

abbrev pub answer_means : Answer → holding.Answer
answer_means Eligible = holding.eligible
answer_means ForNow = holding.for_now
answer_means Ineligible = holding.ineligible

abbrev pub answered_means : Answered → Option holding.Answer
answered_means (With a) = some (answer_means a)
answered_means NoAnswer = none

-- 2 KIND: store not 0, 1, 2. 10 VALUE: answer not 0, 1, 2.
abbrev pub store_at : ℕ → Option holding.Store
store_at k = none if ltb 2 k else some (holding.store_of k)

abbrev pub answer_at : ℕ → Option holding.Answer
answer_at a = none if ltb 2 a else some (holding.answer_of a)

-- ---- numbers ----

abbrev pub refusal_number : Refusal → ℕ
refusal_number Room = 1
refusal_number Kind = 2
refusal_number Index = 3
refusal_number Header = 4
refusal_number Full = 5
refusal_number Version = 6
refusal_number Loaded = 7
refusal_number Generation = 8
refusal_number Unknown = 9
refusal_number Value = 10
refusal_number Final = 11
refusal_number Stale = 12
refusal_number Short = 13

abbrev pub done_number : Done → ℕ
done_number Accepted = 0
done_number (Refused r) = refusal_number r

abbrev pub shown_number : Shown → ℕ
shown_number (ShownBlock b) = 0
shown_number ShownNone = 0
shown_number (ShownRefused r) = refusal_number r

abbrev pub worth_number : Worth → ℕ
worth_number (Linked w ok) = 0
worth_number WorthNone = 0
worth_number (WorthRefused r) = refusal_number r

abbrev pub tip_number : Tip → ℕ
tip_number (Best b w ok) = 0
tip_number TipNone = 0
tip_number (TipRefused r) = refusal_number r

abbrev pub counted_number : Counted → ℕ
counted_number (CountedAt n) = 0
counted_number (CountRefused r) = refusal_number r

abbrev pub listed_number : Listed → ℕ
listed_number (ListedAt n) = 0
listed_number ListNone = 0
listed_number (ListRefused r) = refusal_number r

abbrev pub planned_number : Planned → ℕ
planned_number Scan = 0
planned_number (Apply changed n) = 0
planned_number (PlanRefused r) = refusal_number r

-- ---- values ----

abbrev pub shown_reply : Shown → model.Reply
shown_reply (ShownBlock b) = model.shown (some (block_means b))
shown_reply ShownNone = model.shown none
shown_reply (ShownRefused r) = model.shown none

abbrev pub worth_reply : Worth → model.Reply
worth_reply (Linked w ok) = model.worth (linked (value w) ok)
worth_reply WorthNone = model.worth unlinked
worth_reply (WorthRefused r) = model.worth unlinked

abbrev pub tip_reply : Tip → model.Reply
tip_reply (Best b w ok) = model.tip (some (block_means b)) (linked (value w) ok)
tip_reply TipNone = model.tip none unlinked
tip_reply (TipRefused r) = model.tip none unlinked

abbrev pub counted_reply : Counted → model.Reply
counted_reply (CountedAt n) = model.counted n
counted_reply (CountRefused r) = model.counted 0

-- over the hashes that stand in the lent list after the call; a count past the list says nothing
abbrev pub listed_reply : List ℕ → Listed → model.Reply
listed_reply lent (ListedAt n) = model.listed (some (take n lent) if leb n (length lent) else none)
listed_reply lent ListNone = model.listed none
listed_reply lent (ListRefused r) = model.listed none

-- over the entries that stand in the lent list after the call
abbrev pub planned_reply : List Entry → Planned → PlanReply
planned_reply lent Scan = scanned
planned_reply lent (Apply changed n) = applied changed (take n lent) if leb n (length lent) else scanned
planned_reply lent (PlanRefused r) = scanned

-- ---- the comparison ----

abbrev pub work_means : Work → comparing.Work
work_means (Known w) = comparing.known (value w)
work_means UnknownWork = comparing.unknown

abbrev pub side_means : Side → comparing.Side
side_means s = record { work = work_means s.work; index = s.index; hash = hash_means s.hash }

abbrev pub outcome_means : Outcome → comparing.Outcome
outcome_means Equal = comparing.equal
outcome_means KeepLocal = comparing.keep_local
outcome_means AdoptPeer = comparing.adopt_peer

abbrev pub choice_means : Choice → comparing.Comparison
choice_means c = record { outcome = outcome_means c.outcome; reason = reason_means c.reason }
