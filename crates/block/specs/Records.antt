-- Document 01, "Taken from the repository": what the types of a record mean in the model.
use Rattle.std.specs.Prelude.{ℕ, ℤ}
use Rattle.std.proofs.Math.Option.{Option, none, some}
use Rattle.amount.specs.Value.{value, meant}
use Rattle.hash.specs.declared.Hash.{Hash}
use Rattle.hash.specs.Hashes.{hash_number}
use Rattle.model.specs.Record as model
use Rattle.block.specs.declared.Header.{Header}
use Rattle.block.specs.declared.Time.{Time}
use Rattle.block.specs.declared.Time.TheVariants.{None as NoTime, At}
use Rattle.block.specs.declared.Reason.{Reason}
use Rattle.block.specs.declared.Reason.TheVariants.{SameTip, Neither, PeerOnly, LocalOnly, PeerWork, LocalWork, PeerTip, LocalTip, PeerHash, LocalHash, OffSpine, CompetingFork, StaleFork}
use Rattle.block.specs.declared.Why.{Why}
use Rattle.block.specs.declared.Why.TheVariants.{None as NoReason, Because}
use Rattle.block.specs.declared.Competing.{Competing}
use Rattle.block.specs.declared.Competing.TheVariants.{None as NoHash, With}
use Rattle.block.specs.declared.Copy.{Copy}
use Rattle.block.specs.declared.Block.{Block}
use Rattle.block.specs.declared.Kept.{Kept}
use Rattle.block.specs.declared.Kept.TheVariants.{None as NoCopy, Copy as KeptCopy}

abbrev pub hash_means : Hash → ℕ
hash_means h = hash_number h

abbrev pub header_means : Header → model.Header
header_means h = record { hash = hash_means h.hash; index = h.index; epoch = h.epoch; prev = hash_means h.prev; target = meant h.target; actual = meant h.actual }

abbrev pub time_means : Time → Option ℤ
time_means NoTime = none
time_means (At t) = some t

abbrev pub reason_means : Reason → model.Reason
reason_means (SameTip h) = model.same_tip (hash_means h)
reason_means Neither = model.neither
reason_means (PeerOnly w) = model.peer_only (value w)
reason_means (LocalOnly w) = model.local_only (value w)
reason_means (PeerWork w v) = model.peer_work (value w) (value v)
reason_means (LocalWork w v) = model.local_work (value w) (value v)
reason_means (PeerTip i j) = model.peer_tip i j
reason_means (LocalTip i j) = model.local_tip i j
reason_means PeerHash = model.peer_hash
reason_means LocalHash = model.local_hash
reason_means OffSpine = model.off_spine
reason_means CompetingFork = model.competing_fork
reason_means StaleFork = model.stale_fork

abbrev pub why_means : Why → Option model.Reason
why_means NoReason = none
why_means (Because r) = some (reason_means r)

abbrev pub competing_means : Competing → Option ℕ
competing_means NoHash = none
competing_means (With h) = some (hash_means h)

abbrev pub copy_means : Copy → model.Copy
copy_means c = record { orphaned = c.orphaned; canonical = c.canonical; time = time_means c.time; reason = why_means c.reason; competing = competing_means c.competing }

abbrev pub block_means : Block → model.Block
block_means b = record { header = header_means b.header; copy = copy_means b.copy }

-- what a store holds of a hash
abbrev pub kept_means : Kept → Option model.Copy
kept_means NoCopy = none
kept_means (KeptCopy c) = some (copy_means c)
