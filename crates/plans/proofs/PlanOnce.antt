-- What a plan's promise leaves open: nothing. The number and, with 0, the answer and the entries follow from the state alone; and a memory stays what it stands for.
use mathlib.Core.Path.{◌≡◌, refl, sym, ap, ◌∙◌}
use mathlib.Core.List.{List}
use Prim.Native.Nat.{ℕ, ◌≤◌}
use lib.ListN.{length}
use lib.Seq.{length-take-le}
use borrow.Author.Tests.{le-leb}
use Rattle.model.specs.Plans.{PlanCall, PlanReply, scanned, applied, plan_reply}
use Rattle.model.specs.Writes.{Entry}
use Rattle.block.specs.Answers.{planned_number, planned_reply}
use Rattle.block.specs.declared.Planned.{Planned}
use Rattle.block.specs.declared.Planned.TheVariants.{Scan, Apply, Refused}
use Rattle.block.proofs.AnswerLaws.{refusal_is_none}
use Rattle.memory.specs.Words.{word}
use Rattle.state.specs.View.{view_at}
use Rattle.asking.specs.Whole.{WholeAt, Stays}
use Rattle.plans.specs.Plan.{handed, Replies}

-- the answer that a reply is told by
abbrev pub answer_of : PlanReply → Planned
answer_of scanned = Scan
answer_of (applied changed l) = Apply changed (length l)

told_by : (after : List Entry) (x : Planned) → planned_number x ≡ 0 → handed x ≤ length after → x ≡ answer_of (planned_reply after x)
told_by after Scan z f = refl
told_by after (Apply changed n) z f = rw (le-leb n (length after) f) (ap (Apply changed) (sym (length-take-le n after f)))
told_by after (Refused r) z f = absurd (refusal_is_none r z)

module _ (c : PlanCall) (m m' : List ℕ) (n : ℕ) (after : List Entry) (x : Planned) (k : Replies c m m' n after x) (w : WholeAt m n) where
  pub plan_once : planned_number x ≡ 0 → x ≡ answer_of (plan_reply c (view_at m n))
  plan_once z = told_by after x z (k.fits w) ∙ ap answer_of (k.reply_is w z)

-- a plan may stand between the calls of demand 3's histories
pub plan_stays : (c : PlanCall) (m m' : List ℕ) (after : List Entry) (x : Planned) → Replies c m m' (word m 0) after x → Stays m m'
plan_stays c m m' after x k = record { whole = k.whole; view = k.view }
