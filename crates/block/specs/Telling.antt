-- Which words tell a part of the model's record, in a lent memory and to a host: each word is told, an amount's two by their value and a hash's four by their number, and those
-- that a part does not use are 0. `Writing` has the same of the types of a record; `proofs/TellingLaws.antt` leads from there to here. That no other words below 2^64 tell the
-- same is in boundary/proofs/ToldOnce.antt.
use Rattle.std.specs.Prelude.{ℕ, ◌≡◌, ℤ}
use Rattle.std.proofs.Math.Option.{Option, none, some}
use Rattle.amount.specs.Amounts.{Amount, readable, unreadable}
use Rattle.amount.specs.Value.{from_words}
use Rattle.model.specs.Places.{is_some}
use Rattle.model.specs.Record.{Header, Reason, same_tip, neither, peer_only, local_only, peer_work, local_work, peer_tip, local_tip, peer_hash, local_hash, off_spine, competing_fork, stale_fork, Copy}
use Rattle.block.specs.Words.{hash_of}
use Rattle.block.specs.Writing.{Four, Two, One, Timed, SignedIs, state_word}

-- ---- parts ----

-- 1 and two words of that value; three zeros for an unreadable one
abbrev pub AmountIs : Amount → ℕ → ℕ → ℕ → Type 0
AmountIs (readable v) kind x y = (kind ≡ 1) × (from_words x y ≡ v)
AmountIs unreadable kind x y = (kind ≡ 0) × (x ≡ 0) × (y ≡ 0)

-- two zeros for none; 1 and the time, or 2 and n where the time is -1 - n
abbrev pub TimeTold : Option ℤ → ℕ → ℕ → Type 0
TimeTold none kind word = Timed kind word 0 0
TimeTold (some t) kind word = SignedIs t kind word

abbrev pub kind_number : Reason → ℕ
kind_number (same_tip h) = 1
kind_number neither = 2
kind_number (peer_only w) = 3
kind_number (local_only w) = 4
kind_number (peer_work w v) = 5
kind_number (local_work w v) = 6
kind_number (peer_tip i j) = 7
kind_number (local_tip i j) = 8
kind_number peer_hash = 9
kind_number local_hash = 10
kind_number off_spine = 11
kind_number competing_fork = 12
kind_number stale_fork = 13

abbrev pub NumbersIn : Reason → (ℕ → ℕ) → Type 0
NumbersIn (same_tip h) g = hash_of g ≡ h
NumbersIn neither g = Four g 0 0 0 0
NumbersIn (peer_only w) g = One g w
NumbersIn (local_only w) g = One g w
NumbersIn (peer_work w v) g = Two g w v
NumbersIn (local_work w v) g = Two g w v
NumbersIn (peer_tip i j) g = Four g i j 0 0
NumbersIn (local_tip i j) g = Four g i j 0 0
NumbersIn peer_hash g = Four g 0 0 0 0
NumbersIn local_hash g = Four g 0 0 0 0
NumbersIn off_spine g = Four g 0 0 0 0
NumbersIn competing_fork g = Four g 0 0 0 0
NumbersIn stale_fork g = Four g 0 0 0 0

pub record ReasonTold (x : Reason) (kind : ℕ) (g : ℕ → ℕ) : Type 0 where
  pub kind_is : kind ≡ kind_number x
  pub numbers : NumbersIn x g

abbrev pub WhyTold : Option Reason → ℕ → (ℕ → ℕ) → Type 0
WhyTold none kind g = (kind ≡ 0) × Four g 0 0 0 0
WhyTold (some x) kind g = ReasonTold x kind g

abbrev pub RivalTold : Option ℕ → (ℕ → ℕ) → Type 0
RivalTold none g = Four g 0 0 0 0
RivalTold (some h) g = hash_of g ≡ h

-- ---- whole parts of a record, in the groups that `copy_of` and `header_of` read ----

pub record CopyTold (c : Copy) (s r h : ℕ → ℕ) : Type 0 where
  pub state : s 0 ≡ state_word c.orphaned c.canonical (is_some c.competing)
  pub time : TimeTold c.time (s 1) (s 2)
  pub reason : WhyTold c.reason (s 3) r
  pub rival : RivalTold c.competing h

pub record HeaderTold (x : Header) (h v i w : ℕ → ℕ) : Type 0 where
  pub hash : hash_of h ≡ x.hash
  pub prev : hash_of v ≡ x.prev
  pub index : i 0 ≡ x.index
  pub epoch : i 1 ≡ x.epoch
  pub target : AmountIs x.target (i 2) (w 0) (w 1)
  pub actual : AmountIs x.actual (i 3) (w 2) (w 3)
