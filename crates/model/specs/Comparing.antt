-- Document 01, "Comparing two chains": `choose_verified`, and covering the nomination epoch.
use Rattle.std.specs.Prelude.{ℕ, ◌+◌, ◌*◌, ◌-◌, min, Bool, true, false, ◌||◌, eqb, ltb, leb}
use Rattle.amount.specs.Choose.{◌if◌else◌}
use Rattle.model.specs.Record.{Reason, same_tip, neither, peer_only, local_only, peer_work, local_work, peer_tip, local_tip, peer_hash, local_hash, Header}

pub data Work : Type 0 where
  known : ℕ → Work
  unknown : Work

-- one chain: its work, and its tip's index and hash
pub record Side : Type 0 where
  pub work : Work
  pub index : ℕ
  pub hash : ℕ

pub data Outcome : Type 0 where
  equal keep_local adopt_peer : Outcome

pub record Comparison : Type 0 where
  pub outcome : Outcome
  pub reason : Reason

abbrev pub ◌because◌ : Outcome → Reason → Comparison
◌because◌ o r = record { outcome = o; reason = r }

infix 6 ◌because◌
-- .. both unknown, keep local; the only known side wins; greater work; greater tip index; lower hash. Each outcome has its own reason, with its numbers.
unfoldable pub by_work : Side → Side → Work → Work → Comparison
by_work us them unknown unknown = keep_local because neither
by_work us them unknown (known r) = adopt_peer because peer_only r
by_work us them (known w) unknown = keep_local because local_only w
by_work us them (known w) (known r) =
    (adopt_peer because peer_work r w) if ltb w r else
    (keep_local because local_work w r) if ltb r w else
    (adopt_peer because peer_tip them.index us.index) if ltb us.index them.index else
    (keep_local because local_tip us.index them.index) if ltb them.index us.index else
    (adopt_peer because peer_hash) if ltb them.hash us.hash else
    (keep_local because local_hash)

-- `choose_verified` in order: same tip hash, Equal; ..
unfoldable pub choose_verified : Side → Side → Comparison
choose_verified us them = (equal because same_tip us.hash) if eqb us.hash them.hash else by_work us them us.work them.work

abbrev pub is_adopted : Outcome → Bool
is_adopted equal = false
is_adopted keep_local = false
is_adopted adopt_peer = true

-- .. each step saturating at 64 bits
abbrev pub saturated : ℕ → ℕ
saturated n = min n 18446744073709551615

-- Covers its nomination epoch: epoch below 2 or blocks per epoch 0; otherwise index + 1 ≥ (epoch - 2) × n + n, ..
unfoldable pub covers : ℕ → Header → Bool
covers n b = ltb b.epoch 2 || eqb n 0 || leb (saturated (saturated ((b.epoch - 2) * n) + n)) (saturated (b.index + 1))
