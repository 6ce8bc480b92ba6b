-- The comparison as it crosses to a host (document 01, "Comparing two chains"): a side is four words and the bytes of a hash, a choice six words, covering one. Total:
-- any words and any bytes are a side.
use Rattle.std.specs.Prelude.{ℕ, List, ◌≡◌, eqb}
use Rattle.amount.specs.Choose.{◌if◌else◌}
use Rattle.amount.specs.Value.{from_words}
use Rattle.block.specs.Telling.{ReasonTold}
use Rattle.hash.specs.Digits.{bytes_number}
use Rattle.memory.specs.Words.{word, seg}
use Rattle.model.specs.Comparing.{Work, known, unknown, Side, Outcome, equal, keep_local, adopt_peer, Comparison, covers}
use Rattle.model.specs.Record.{Header}

-- ---- a side ----

-- 1 is known, with the two words of the work, the lower first; any other kind is unknown
abbrev pub work_in : ℕ → ℕ → ℕ → Work
work_in kind x y = known (from_words x y) if eqb kind 1 else unknown

-- three words of work, and the tip's index; the tip's hash
abbrev pub side_in : List ℕ → ℕ → Side
side_in words h = record { work = work_in (word words 0) (word words 1) (word words 2); index = word words 3; hash = h }

abbrev pub side_meant : List ℕ → List ℕ → Side
side_meant words hash = side_in words (bytes_number hash)

-- ---- a choice ----

abbrev pub outcome_number : Outcome → ℕ
outcome_number equal = 0
outcome_number keep_local = 1
outcome_number adopt_peer = 2

-- the outcome, and the reason as a shown block has it: its kind, and its four words
pub record ChoiceTold (c : Comparison) (out : List ℕ) : Type 0 where
  pub outcome : word out 0 ≡ outcome_number c.outcome
  pub reason : ReasonTold c.reason (word out 1) (seg out 2 4)

-- ---- covering ----

-- 1 or 0, for every tip of this index and epoch
abbrev pub CoversTold : ℕ → ℕ → ℕ → ℕ → Type 0
CoversTold index epoch n r = (b : Header) → b.index ≡ index → b.epoch ≡ epoch → r ≡ (1 if covers n b else 0)
