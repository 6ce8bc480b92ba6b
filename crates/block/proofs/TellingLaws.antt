-- Words that stand for a part of a record tell what it means.
use Prim.Native.Nat.{ℕ}
use mathlib.Core.Bool.{Bool}
use mathlib.Core.Path.{◌≡◌, refl, ap, ◌∙◌}
use Rattle.amount.specs.Value.{meant}
use Rattle.amount.specs.declared.Reading.{Reading}
use Rattle.amount.specs.declared.Reading.TheVariants.{Readable, Unreadable}
use Rattle.model.specs.Places.{is_some}
use Rattle.block.specs.Records.{header_means, time_means, reason_means, why_means, competing_means, copy_means}
use Rattle.block.specs.Telling.{AmountIs, TimeTold, ReasonTold, WhyTold, RivalTold, CopyTold, HeaderTold}
use Rattle.block.specs.Writing.{ReadingIs, TimeIs, ReasonIs, WhyIs, is_with, CompetingIs, state_word, CopyIs, HeaderIs}
use Rattle.block.specs.declared.Header.{Header}
use Rattle.block.specs.declared.Time.{Time}
use Rattle.block.specs.declared.Time.TheVariants.{None as NoTime, At}
use Rattle.block.specs.declared.Reason.{Reason}
use Rattle.block.specs.declared.Reason.TheVariants.{SameTip, Neither, PeerOnly, LocalOnly, PeerWork, LocalWork, PeerTip, LocalTip, PeerHash, LocalHash, OffSpine, CompetingFork, StaleFork}
use Rattle.block.specs.declared.Why.{Why}
use Rattle.block.specs.declared.Why.TheVariants.{None as NoReason, Because}
use Rattle.block.specs.declared.Competing.{Competing}
use Rattle.block.specs.declared.Competing.TheVariants.{None as NoHash, With}
use Rattle.block.specs.declared.Copy.{Copy}
use Rattle.block.proofs.WordLaws.{hash_read}

-- ---- parts ----

tells_reading : (x : Reading) (kind a b : ℕ) → ReadingIs x kind a b → AmountIs (meant x) kind a b
tells_reading (Readable y) kind a b w = w
tells_reading Unreadable kind a b w = w

tells_time : (t : Time) (kind word : ℕ) → TimeIs t kind word → TimeTold (time_means t) kind word
tells_time NoTime kind word w = w
tells_time (At z) kind word w = w

pub tells_reason : (x : Reason) (kind : ℕ) (g : ℕ → ℕ) → ReasonIs x kind g → ReasonTold (reason_means x) kind g
tells_reason (SameTip h) kind g w = record { kind_is = w.kind_is; numbers = hash_read h g w.words }
tells_reason Neither kind g w = record { kind_is = w.kind_is; numbers = w.words }
tells_reason (PeerOnly x) kind g w = record { kind_is = w.kind_is; numbers = w.words }
tells_reason (LocalOnly x) kind g w = record { kind_is = w.kind_is; numbers = w.words }
tells_reason (PeerWork x y) kind g w = record { kind_is = w.kind_is; numbers = w.words }
tells_reason (LocalWork x y) kind g w = record { kind_is = w.kind_is; numbers = w.words }
tells_reason (PeerTip i j) kind g w = record { kind_is = w.kind_is; numbers = w.words }
tells_reason (LocalTip i j) kind g w = record { kind_is = w.kind_is; numbers = w.words }
tells_reason PeerHash kind g w = record { kind_is = w.kind_is; numbers = w.words }
tells_reason LocalHash kind g w = record { kind_is = w.kind_is; numbers = w.words }
tells_reason OffSpine kind g w = record { kind_is = w.kind_is; numbers = w.words }
tells_reason CompetingFork kind g w = record { kind_is = w.kind_is; numbers = w.words }
tells_reason StaleFork kind g w = record { kind_is = w.kind_is; numbers = w.words }

tells_why : (x : Why) (kind : ℕ) (g : ℕ → ℕ) → WhyIs x kind g → WhyTold (why_means x) kind g
tells_why NoReason kind g w = w
tells_why (Because r) kind g w = tells_reason r kind g w

tells_rival : (x : Competing) (g : ℕ → ℕ) → CompetingIs x g → RivalTold (competing_means x) g
tells_rival NoHash g w = w
tells_rival (With h) g w = hash_read h g w

with_is : (x : Competing) → is_with x ≡ is_some (competing_means x)
with_is NoHash = refl
with_is (With h) = refl

-- ---- whole parts ----

pub tells_copy : (x : Copy) (s r h : ℕ → ℕ) → CopyIs x s r h → CopyTold (copy_means x) s r h
tells_copy x s r h w =
    record {
      state = w.state ∙ ap (λ (b : Bool). state_word x.orphaned x.canonical b) (with_is x.competing);
      time = tells_time x.time (s 1) (s 2) w.time;
      reason = tells_why x.reason (s 3) r w.reason;
      rival = tells_rival x.competing h w.competing;
    }

pub tells_header : (x : Header) (h v i w : ℕ → ℕ) → HeaderIs x h v i w → HeaderTold (header_means x) h v i w
tells_header x h v i w e =
    record {
      hash = hash_read x.hash h e.hash;
      prev = hash_read x.prev v e.prev;
      index = e.index;
      epoch = e.epoch;
      target = tells_reading x.target (i 2) (w 0) (w 1) e.target;
      actual = tells_reading x.actual (i 3) (w 2) (w 3) e.actual;
    }
