-- What was written decodes to what it means (document 01, "Forms that change"), over plain words.
use Prim.Native.Nat.{ℕ}
use mathlib.Core.Bool.{Bool, true, false}
use mathlib.Core.Option.{some}
use mathlib.Core.Path.{◌≡◌, refl, ap}
use native.Mathlib.Nat.{mod-eq_of_lt}
use borrow.Author.Tests.{ne_eqb}
use lib.Dec.{eqb}
use lib.IntN.{ℤ, pos, negsuc}
use Rattle.amount.specs.Value.{meant}
use Rattle.amount.specs.declared.Reading.{Reading}
use Rattle.amount.specs.declared.Reading.TheVariants.{Readable, Unreadable}
use Rattle.hash.specs.declared.Hash.{Hash}
use Rattle.model.specs.Record as model
use Rattle.block.specs.Records.{hash_means, header_means, time_means, reason_means, why_means, competing_means, copy_means}
use Rattle.block.specs.Words.{hash_of, amount_of, time_of, reason_of, why_of, competing_of, is_orphaned, is_canonical, is_competing, copy_of, header_of}
use Rattle.block.specs.Writing.{HashIs, ReadingIs, SignedIs, TimeIs, ReasonIs, WhyIs, is_with, CompetingIs, state_word, CopyIs, HeaderIs}
use Rattle.block.specs.declared.Header.{Header}
use Rattle.block.specs.declared.Time.{Time}
use Rattle.block.specs.declared.Time.TheVariants.{None as NoTime, At}
use Rattle.block.specs.declared.Reason.{Reason}
use Rattle.block.specs.declared.Reason.TheVariants.{SameTip, Neither, PeerOnly, LocalOnly, PeerWork, LocalWork, PeerTip, LocalTip, PeerHash, LocalHash, OffSpine, CompetingFork, StaleFork}
use Rattle.block.specs.declared.Why.{Why}
use Rattle.block.specs.declared.Why.TheVariants.{None as NoReason, Because}
use Rattle.block.specs.declared.Competing.{Competing}
use Rattle.block.specs.declared.Competing.TheVariants.{None as NoHash, With}
use Rattle.block.specs.declared.Copy.{Copy}

-- ---- parts ----

pub hash_read : (h : Hash) (g : ℕ → ℕ) → HashIs h g → hash_of g ≡ hash_means h
hash_read h g w = rw (w.first, w.second, w.third, w.fourth)

pub reading_read : (x : Reading) (kind a b : ℕ) → ReadingIs x kind a b → amount_of kind a b ≡ meant x
reading_read (Readable y) kind a b w = rw (w.0, w.1)
reading_read Unreadable kind a b w = rw w.0

signed_read : (z : ℤ) (kind word : ℕ) → SignedIs z kind word → time_of kind word ≡ some z
signed_read (pos n) kind word w = rw (w.kind_is, w.word_is, mod-eq_of_lt w.below)
signed_read (negsuc n) kind word w = rw (w.kind_is, w.word_is, mod-eq_of_lt w.below)

pub time_read : (t : Time) (kind word : ℕ) → TimeIs t kind word → time_of kind word ≡ time_means t
time_read NoTime kind word w = rw w.kind_is
time_read (At z) kind word w = signed_read z kind word w

reason_read : (r : Reason) (kind : ℕ) (g : ℕ → ℕ) → ReasonIs r kind g → why_of kind g ≡ some (reason_means r)
unfolding why_of reason_of
reason_read (SameTip h) kind g w = rw (w.kind_is, hash_read h g w.words)
reason_read Neither kind g w = rw w.kind_is
reason_read (PeerOnly x) kind g w = rw (w.kind_is, w.words.first)
reason_read (LocalOnly x) kind g w = rw (w.kind_is, w.words.first)
reason_read (PeerWork x y) kind g w = rw (w.kind_is, w.words.first, w.words.second)
reason_read (LocalWork x y) kind g w = rw (w.kind_is, w.words.first, w.words.second)
reason_read (PeerTip i j) kind g w = rw (w.kind_is, w.words.first, w.words.second)
reason_read (LocalTip i j) kind g w = rw (w.kind_is, w.words.first, w.words.second)
reason_read PeerHash kind g w = rw w.kind_is
reason_read LocalHash kind g w = rw w.kind_is
reason_read OffSpine kind g w = rw w.kind_is
reason_read CompetingFork kind g w = rw w.kind_is
reason_read StaleFork kind g w = rw w.kind_is

pub why_read : (x : Why) (kind : ℕ) (g : ℕ → ℕ) → WhyIs x kind g → why_of kind g ≡ why_means x
unfolding why_of
why_read NoReason kind g w = rw w.0
why_read (Because r) kind g w = reason_read r kind g w

pub competing_read : (x : Competing) (g : ℕ → ℕ) → CompetingIs x g → competing_of (is_with x) g ≡ competing_means x
competing_read NoHash g w = refl
competing_read (With h) g w = ap some (hash_read h g w)

-- any kind but those of the other reasons is a stale fork's
pub reason_rest : (k : ℕ) (g : ℕ → ℕ) → (k ≡ 1 → ⊥) → (k ≡ 2 → ⊥) → (k ≡ 3 → ⊥) → (k ≡ 4 → ⊥) → (k ≡ 5 → ⊥) → (k ≡ 6 → ⊥) → (k ≡ 7 → ⊥) → (k ≡ 8 → ⊥) → (k ≡ 9 → ⊥) → (k ≡ 10 → ⊥) → (k ≡ 11 → ⊥) → (k ≡ 12 → ⊥) → model.stale_fork ≡ reason_of k g
unfolding reason_of
reason_rest k g n₁ n₂ n₃ n₄ n₅ n₆ n₇ n₈ n₉ n₁₀ n₁₁ n₁₂ =
    rw (ne_eqb k 1 n₁, ne_eqb k 2 n₂, ne_eqb k 3 n₃, ne_eqb k 4 n₄, ne_eqb k 5 n₅, ne_eqb k 6 n₆, ne_eqb k 7 n₇, ne_eqb k 8 n₈, ne_eqb k 9 n₉, ne_eqb k 10 n₁₀, ne_eqb k 11 n₁₁, ne_eqb k 12 n₁₂)

-- ---- the state word ----

pub record Flags (s : ℕ) (orphaned canonical competing : Bool) : Type 0 where
  pub there : eqb s 0 ≡ false
  pub orphaned_is : is_orphaned s ≡ orphaned
  pub canonical_is : is_canonical s ≡ canonical
  pub competing_is : is_competing s ≡ competing

pub flags : (o c h : Bool) → Flags (state_word o c h) o c h
flags true true true = record { there = refl; orphaned_is = refl; canonical_is = refl; competing_is = refl }
flags true true false = record { there = refl; orphaned_is = refl; canonical_is = refl; competing_is = refl }
flags true false true = record { there = refl; orphaned_is = refl; canonical_is = refl; competing_is = refl }
flags true false false = record { there = refl; orphaned_is = refl; canonical_is = refl; competing_is = refl }
flags false true true = record { there = refl; orphaned_is = refl; canonical_is = refl; competing_is = refl }
flags false true false = record { there = refl; orphaned_is = refl; canonical_is = refl; competing_is = refl }
flags false false true = record { there = refl; orphaned_is = refl; canonical_is = refl; competing_is = refl }
flags false false false = record { there = refl; orphaned_is = refl; canonical_is = refl; competing_is = refl }

-- ---- whole parts ----

pub copy_read : (x : Copy) (s r h : ℕ → ℕ) → CopyIs x s r h → copy_of s r h ≡ some (copy_means x)
unfolding copy_of
copy_read x s r h w =
    let f = flags x.orphaned x.canonical (is_with x.competing) in
    rw (w.state, f.there, f.orphaned_is, f.canonical_is, f.competing_is, time_read x.time (s 1) (s 2) w.time, why_read x.reason (s 3) r w.reason, competing_read x.competing h w.competing)

pub header_read : (x : Header) (h v i w : ℕ → ℕ) → HeaderIs x h v i w → header_of h v i w ≡ header_means x
unfolding header_of
header_read x h v i w e =
    rw (hash_read x.hash h e.hash, hash_read x.prev v e.prev, e.index, e.epoch, reading_read x.target (i 2) (w 0) (w 1) e.target, reading_read x.actual (i 3) (w 2) (w 3) e.actual)
