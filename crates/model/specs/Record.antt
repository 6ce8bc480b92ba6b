-- Document 01, "Taken from the repository": the block record, and the reasons that it may carry.
use Rattle.std.specs.Prelude.{ℕ, Bool, ◌&&◌, ℤ, eqb}
use Rattle.std.proofs.Math.Option.{Option}
use Rattle.amount.specs.Amounts.{Amount, same_amount}

-- A block record is: hash, index, epoch, previous hash, target, actual .. The first six are its header.
-- A hash is 32 bytes, here as one number, the first byte the highest: byte order is the numbers' order.
pub record Header : Type 0 where
  pub hash : ℕ
  pub index : ℕ
  pub epoch : ℕ
  pub prev : ℕ
  pub target : Amount
  pub actual : Amount

-- A reason is a kind of sentence from 01 with any numbers it prints (for the same tip, the hash); no other is in the domain.
pub data Reason : Type 0 where
  same_tip : ℕ → Reason  -- the hash
  neither : Reason
  peer_only local_only : ℕ → Reason  -- the work of the only known side
  peer_work local_work : ℕ → ℕ → Reason  -- the winner's work, then the other's
  peer_tip local_tip : ℕ → ℕ → Reason  -- the winner's tip index, then the other's
  peer_hash local_hash : Reason
  off_spine competing_fork stale_fork : Reason  -- of the plans: two demotions, and a stale extension

-- .. flags orphaned and canonical; and optional orphaned time (i64), reason, competing hash. Only the optional three may be missing.
-- Each store has a copy of these five of its own; the header is kept once.
pub record Copy : Type 0 where
  pub orphaned : Bool
  pub canonical : Bool
  pub time : Option ℤ
  pub reason : Option Reason
  pub competing : Option ℕ

pub record Block : Type 0 where
  pub header : Header
  pub copy : Copy

-- The same header: all six agree, amounts as "Amounts" says.
abbrev pub same_header : Header → Header → Bool
same_header a b = eqb a.hash b.hash && eqb a.index b.index && eqb a.epoch b.epoch && eqb a.prev b.prev && same_amount a.target b.target && same_amount a.actual b.actual
