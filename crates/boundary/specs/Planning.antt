-- Document 01, "The two plans": what of a plan crosses to a host: the floor as it comes in, and the answer as words.
use Rattle.std.specs.Prelude.{List, ◌≡◌, ℕ, eqb, length, set, take, drop}
use Rattle.std.proofs.Math.Option.{Option, none, some}
use Rattle.amount.specs.Choose.{◌if◌else◌}
use Rattle.model.specs.Plans.{PlanCall}
use Rattle.block.specs.Answers.{planned_number}
use Rattle.block.specs.declared.Planned.{Planned}
use Rattle.block.specs.declared.Planned.TheVariants.{Scan, Apply, Refused}
use Rattle.memory.specs.Words.{word}
use Rattle.entries.specs.declared.Entry.{Entry}
use Rattle.entries.specs.Handing.{meanings, AllPlain}
use Rattle.plans.specs.Plan.{handed, Replies}

-- a floor is given unless the first number is 0
abbrev pub given_floor : ℕ → ℕ → Option ℕ
given_floor given floor = none if eqb given 0 else some floor

-- 1, `changed` and how many entries; three zeros for a scan
abbrev pub planned_in : Planned → List ℕ → List ℕ
planned_in Scan out = set (set (set out 0 0) 1 0) 2 0
planned_in (Apply changed n) out = set (set (set out 0 1) 1 changed) 2 n
planned_in (Refused r) out = out

pub record PlanTold (a : Planned) (out out' : List ℕ) (r : ℕ) : Type 0 where
  pub number_is : r ≡ planned_number a
  pub told : out' ≡ planned_in a out

-- of any memory, a refusal leaves it, the list and the words, entries are plain, and places past the last one stay; of a whole one, the number is the model's, it stays whole and stands for the same state, and with 0 words and list are the plan
pub record EntryPlans (c : PlanCall) (m m' : List ℕ) (list list' : List Entry) (out out' : List ℕ) (r : ℕ) : Type 0 where
  pub answer : Planned
  pub number_is : r ≡ planned_number answer
  pub told : out' ≡ planned_in answer out
  pub replies : Replies c m m' (word m 0) (meanings list') answer
  pub refused : (r ≡ 0 → ⊥) → list' ≡ list
  pub long : length list' ≡ length list
  pub rest : drop (handed answer) list' ≡ drop (handed answer) list
  pub plain : AllPlain (take (handed answer) list')
