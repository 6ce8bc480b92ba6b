-- Document 01, "The two plans" and "Numbers given back": what a plan promises as a call. 12, then 13: the list must have the live count, also where the plan would scan.
-- A refusal leaves memory and list. On a whole memory the number is the model's, the memory stays whole and stands for the same state; with 0 the answer and the entries
-- in the list are the model's. Places past the last entry stay as they were.
use Rattle.std.specs.Prelude.{not, List, ◌≡◌, ℕ, ◌≤◌, ltb, length, take}
use Rattle.amount.specs.Choose.{◌if◌else◌}
use Rattle.model.specs.Holding.{live_count}
use Rattle.model.specs.Plans.{PlanCall, ask_plan, plan_reply}
use Rattle.model.specs.Writes.{Entry}
use Rattle.block.specs.Answers.{done_number, planned_number, planned_reply}
use Rattle.block.specs.declared.Done.{Done}
use Rattle.block.specs.declared.Planned.{Planned}
use Rattle.block.specs.declared.Planned.TheVariants.{Scan, Apply, Refused}
use Rattle.memory.specs.Words.{word}
use Rattle.state.specs.View.{view_at}
use Rattle.asking.specs.Whole.{WholeAt}
use Rattle.entries.specs.Handing.{meanings, AllPlain}
use Rattle.plans.specs.Lent.{entries_in, FirstOnly}

-- how many entries were handed back
abbrev pub handed : Planned → ℕ
handed Scan = 0
handed (Apply changed k) = k
handed (Refused r) = 0

-- with the entries that stand in the list after the call
pub record Replies (c : PlanCall) (m m' : List ℕ) (n : ℕ) (after : List Entry) (x : Planned) : Type 0 where
  pub refused : (planned_number x ≡ 0 → ⊥) → m' ≡ m
  pub whole : WholeAt m n → WholeAt m' n
  pub view : WholeAt m n → view_at m' n ≡ view_at m n
  pub number_is : WholeAt m n → planned_number x ≡ ask_plan c (view_at m n)
  pub reply_is : WholeAt m n → planned_number x ≡ 0 → planned_reply after x ≡ plan_reply c (view_at m n)
  pub fits : WholeAt m n → handed x ≤ length after

-- the list lent as words; of any memory, the entries handed back are plain
pub record Plans (c : PlanCall) (m m' list list' : List ℕ) (x : Planned) : Type 0 where
  pub replies : Replies c m m' (word m 0) (meanings (entries_in list')) x
  pub list_only : FirstOnly list list' (handed x)
  pub plain : AllPlain (take (handed x) (entries_in list'))

-- ---- before the core ----

-- 12, then 13, or neither: then there is room, a sync covers the present and the list has places for all that is live
pub record Begins (m : List ℕ) (n places : ℕ) (x : Done) : Type 0 where
  pub number_is : WholeAt m n → done_number x ≡ (12 if not (view_at m n).fresh else 13 if ltb places (live_count (view_at m n).holdings) else 0)
  pub some : done_number x ≡ 0 → n ≡ 0 → ⊥
  pub fresh : done_number x ≡ 0 → word m 7 ≡ 1
  pub enough : done_number x ≡ 0 → word m 12 ≤ places
