-- What a comparison promises leaves no slack (document 01, "Promises that leave no slack"): six words that tell a choice are the only six. And the reason in them
-- reads as the reason of a shown block does.
use mathlib.Core.List.{List}
use mathlib.Core.Option.{some}
use mathlib.Core.Path.{◌≡◌, sym, ◌∙◌}
use Prim.Native.Nat.{ℕ}
use Rattle.block.specs.Telling.{ReasonTold}
use Rattle.block.specs.Words.{reason_of, why_of}
use Rattle.memory.specs.Words.{word, seg}
use Rattle.model.specs.Comparing.{Comparison}
use Rattle.model.specs.Record.{Reason, same_tip, neither, peer_only, local_only, peer_work, local_work, peer_tip, local_tip, peer_hash, local_hash, off_spine, competing_fork, stale_fork}
use Rattle.boundary.specs.Compared.{ChoiceTold}
use Rattle.boundary.proofs.ToldOnce.{Group, Same, numbers_once}

-- ---- six words ----

pub record Six (out out' : List ℕ) : Type 0 where
  pub outcome : word out 0 ≡ word out' 0
  pub kind : word out 1 ≡ word out' 1
  pub numbers : Same (seg out 2 4) (seg out' 2 4)

pub told_once : (c : Comparison) (out out' : List ℕ) → Group (seg out 2 4) → Group (seg out' 2 4) → ChoiceTold c out → ChoiceTold c out' → Six out out'
told_once c out out' w w' t t' =
    record {
      outcome = t.outcome ∙ sym t'.outcome;
      kind = t.reason.kind_is ∙ sym t'.reason.kind_is;
      numbers = numbers_once (seg out 2 4) (seg out' 2 4) w w' c.reason t.reason.numbers t'.reason.numbers;
    }

-- ---- a reason ----

pub told_reads : (x : Reason) (kind : ℕ) (g : ℕ → ℕ) → ReasonTold x kind g → why_of kind g ≡ some x
unfolding why_of reason_of
told_reads (same_tip h) kind g t = rw (t.kind_is, t.numbers)
told_reads neither kind g t = rw t.kind_is
told_reads (peer_only w) kind g t = rw (t.kind_is, t.numbers.first)
told_reads (local_only w) kind g t = rw (t.kind_is, t.numbers.first)
told_reads (peer_work w v) kind g t = rw (t.kind_is, t.numbers.first, t.numbers.second)
told_reads (local_work w v) kind g t = rw (t.kind_is, t.numbers.first, t.numbers.second)
told_reads (peer_tip i j) kind g t = rw (t.kind_is, t.numbers.first, t.numbers.second)
told_reads (local_tip i j) kind g t = rw (t.kind_is, t.numbers.first, t.numbers.second)
told_reads peer_hash kind g t = rw t.kind_is
told_reads local_hash kind g t = rw t.kind_is
told_reads off_spine kind g t = rw t.kind_is
told_reads competing_fork kind g t = rw t.kind_is
told_reads stale_fork kind g t = rw t.kind_is
