-- Which words stand for a part of a record in a lent memory: each word is told, an amount's two by their value, and those that a part does not use are 0.
-- `proofs/WordLaws.antt` has that such words decode to what the part means.
use Rattle.std.specs.Prelude.{ℕ, ◌+◌, ◌<◌, Bool, true, false, ◌≡◌, ℤ, pos, negsuc}
use Rattle.amount.specs.Choose.{◌if◌else◌}
use Rattle.amount.specs.Value.{value, from_words}
use Rattle.amount.specs.declared.Reading.{Reading}
use Rattle.amount.specs.declared.Reading.TheVariants.{Readable, Unreadable}
use Rattle.hash.specs.declared.Hash.{Hash}
use Rattle.block.specs.Words.{half}
use Rattle.block.specs.declared.Header.{Header}
use Rattle.block.specs.declared.Time.{Time}
use Rattle.block.specs.declared.Time.TheVariants.{None as NoTime, At}
use Rattle.block.specs.declared.Reason.{Reason}
use Rattle.block.specs.declared.Reason.TheVariants.{SameTip, Neither, PeerOnly, LocalOnly, PeerWork, LocalWork, PeerTip, LocalTip, PeerHash, LocalHash, OffSpine, CompetingFork, StaleFork}
use Rattle.block.specs.declared.Why.{Why}
use Rattle.block.specs.declared.Why.TheVariants.{None as NoReason, Because}
use Rattle.block.specs.declared.Competing.{Competing}
use Rattle.block.specs.declared.Competing.TheVariants.{None as NoHash, With}
use Rattle.block.specs.declared.Copy.{Copy}

-- four numbers, in order; two amounts
pub record Four (g : ℕ → ℕ) (a b c d : ℕ) : Type 0 where
  pub first : g 0 ≡ a
  pub second : g 1 ≡ b
  pub third : g 2 ≡ c
  pub fourth : g 3 ≡ d

pub record Two (g : ℕ → ℕ) (x y : ℕ) : Type 0 where
  pub first : from_words (g 0) (g 1) ≡ x
  pub second : from_words (g 2) (g 3) ≡ y

-- one amount
pub record One (g : ℕ → ℕ) (x : ℕ) : Type 0 where
  pub first : from_words (g 0) (g 1) ≡ x
  pub third : g 2 ≡ 0
  pub fourth : g 3 ≡ 0

abbrev pub HashIs : Hash → (ℕ → ℕ) → Type 0
HashIs h g = Four g h.first h.second h.third h.fourth

abbrev pub ReadingIs : Reading → ℕ → ℕ → ℕ → Type 0
ReadingIs (Readable a) kind x y = (kind ≡ 1) × (from_words x y ≡ value a)
ReadingIs Unreadable kind x y = (kind ≡ 0) × (x ≡ 0) × (y ≡ 0)

-- a time is a kind and a number below 2^63
pub record Timed (kind word k n : ℕ) : Type 0 where
  pub kind_is : kind ≡ k
  pub word_is : word ≡ n
  pub below : n < half

abbrev pub SignedIs : ℤ → ℕ → ℕ → Type 0
SignedIs (pos n) kind word = Timed kind word 1 n
SignedIs (negsuc n) kind word = Timed kind word 2 n

abbrev pub TimeIs : Time → ℕ → ℕ → Type 0
TimeIs NoTime kind word = Timed kind word 0 0
TimeIs (At t) kind word = SignedIs t kind word

abbrev pub reason_kind : Reason → ℕ
reason_kind (SameTip h) = 1
reason_kind Neither = 2
reason_kind (PeerOnly w) = 3
reason_kind (LocalOnly w) = 4
reason_kind (PeerWork w v) = 5
reason_kind (LocalWork w v) = 6
reason_kind (PeerTip i j) = 7
reason_kind (LocalTip i j) = 8
reason_kind PeerHash = 9
reason_kind LocalHash = 10
reason_kind OffSpine = 11
reason_kind CompetingFork = 12
reason_kind StaleFork = 13

abbrev pub ReasonWords : Reason → (ℕ → ℕ) → Type 0
ReasonWords (SameTip h) g = HashIs h g
ReasonWords Neither g = Four g 0 0 0 0
ReasonWords (PeerOnly w) g = One g (value w)
ReasonWords (LocalOnly w) g = One g (value w)
ReasonWords (PeerWork w v) g = Two g (value w) (value v)
ReasonWords (LocalWork w v) g = Two g (value w) (value v)
ReasonWords (PeerTip i j) g = Four g i j 0 0
ReasonWords (LocalTip i j) g = Four g i j 0 0
ReasonWords PeerHash g = Four g 0 0 0 0
ReasonWords LocalHash g = Four g 0 0 0 0
ReasonWords OffSpine g = Four g 0 0 0 0
ReasonWords CompetingFork g = Four g 0 0 0 0
ReasonWords StaleFork g = Four g 0 0 0 0

pub record ReasonIs (r : Reason) (kind : ℕ) (g : ℕ → ℕ) : Type 0 where
  pub kind_is : kind ≡ reason_kind r
  pub words : ReasonWords r g

abbrev pub WhyIs : Why → ℕ → (ℕ → ℕ) → Type 0
WhyIs NoReason kind g = (kind ≡ 0) × Four g 0 0 0 0
WhyIs (Because r) kind g = ReasonIs r kind g

abbrev pub is_with : Competing → Bool
is_with NoHash = false
is_with (With h) = true

abbrev pub CompetingIs : Competing → (ℕ → ℕ) → Type 0
CompetingIs NoHash g = Four g 0 0 0 0
CompetingIs (With h) g = HashIs h g

-- the state word of a copy
abbrev pub state_word : Bool → Bool → Bool → ℕ
state_word orphaned canonical competing = 1 + (1 if orphaned else 0) + (2 if canonical else 0) + (4 if competing else 0)

pub record CopyIs (c : Copy) (s r h : ℕ → ℕ) : Type 0 where
  pub state : s 0 ≡ state_word c.orphaned c.canonical (is_with c.competing)
  pub time : TimeIs c.time (s 1) (s 2)
  pub reason : WhyIs c.reason (s 3) r
  pub competing : CompetingIs c.competing h

pub record HeaderIs (x : Header) (h v i w : ℕ → ℕ) : Type 0 where
  pub hash : HashIs x.hash h
  pub prev : HashIs x.prev v
  pub index : i 0 ≡ x.index
  pub epoch : i 1 ≡ x.epoch
  pub target : ReadingIs x.target (i 2) (w 0) (w 1)
  pub actual : ReadingIs x.actual (i 3) (w 2) (w 3)
