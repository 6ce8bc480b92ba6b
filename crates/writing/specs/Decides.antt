-- Document 01, "The two plans": what the core of a plan promises. It decides, leaves its changes as codes, by place, and leaves the state that the memory stands for.
use Rattle.std.specs.Prelude.{List, ◌≡◌, ℕ, ◌+◌, ◌≤◌, ◌<◌, ℤ, length}
use Rattle.std.proofs.Math.Option.{Option, none, some}
use Rattle.model.specs.Record.{Reason, off_spine}
use Rattle.model.specs.Runs.{Run}
use Rattle.model.specs.Writes.{Plan, scan, apply}
use Rattle.block.specs.Records.{reason_means}
use Rattle.memory.specs.Words.{word}
use Rattle.memory.specs.Layout.{row, by_hash, nodes}
use Rattle.state.specs.View.{view_at}
use Rattle.state.specs.Sound.{SoundAt}
use Rattle.writing.specs.Planned.{Planned}
use Rattle.writing.specs.declared.Decided.{Decided}
use Rattle.writing.specs.declared.Decided.TheVariants.{Scan, Apply}

-- ---- what is decided ----

-- `changed`, or none for a scan
abbrev pub changed_by : Plan → Option ℕ
changed_by scan = none
changed_by (apply k ws) = some k

abbrev pub decided_changed : Decided → Option ℕ
decided_changed Scan = none
decided_changed (Apply k reason) = some k

-- (A scan has no reason; nothing reads the one given for it.)
abbrev pub decided_reason : Decided → Reason
decided_reason Scan = off_spine
decided_reason (Apply k reason) = reason_means reason

pub record Decides (p : Plan) (m m' : List ℕ) (n : ℕ) (clock : ℤ) (x : Decided) : Type 0 where
  pub changed : decided_changed x ≡ changed_by p
  pub planned : Planned p m m' n clock (decided_reason x)

-- ---- the memory ----

-- a sound memory that stands for a state that calls lead to, where a sync covers the present
pub record Ready (m : List ℕ) (n : ℕ) : Type 0 where
  pub sound : SoundAt m n
  pub run : Run (view_at m n)
  pub fresh : word m 7 ≡ 1

-- words 3, 59, 63 and 65 of rows, and the nodes of the contests of turns and of listed leaves, may change, nothing else
pub record ScratchOnly (m m' : List ℕ) (n : ℕ) : Type 0 where
  pub long : length m' ≡ length m
  pub head : (a : ℕ) → a < 64 → word m' a ≡ word m a
  pub rows : (q k : ℕ) → q < n → k < 68 → (k ≡ 3 → ⊥) → (k ≡ 59 → ⊥) → (k ≡ 63 → ⊥) → (k ≡ 65 → ⊥) → word m' (row q + k) ≡ word m (row q + k)
  pub before : (a : ℕ) → by_hash n ≤ a → a < nodes n 2 → word m' a ≡ word m a
  pub free : (a : ℕ) → nodes n 3 ≤ a → a < nodes n 4 → word m' a ≡ word m a
  pub after : (a : ℕ) → nodes n 5 ≤ a → word m' a ≡ word m a
