-- Words of a lent memory as parts of the model (document 01, "Forms that change"). Total: any words decode to something. A group is four words, as a function
-- of 0 .. 3.
use Rattle.std.specs.Prelude.{ℕ, ◌-◌, ◌/◌, ◌%◌, Bool, eqb, ℤ, pos, negsuc}
use Rattle.std.proofs.Math.Option.{Option, none, some}
use Rattle.amount.specs.Amounts.{Amount, readable, unreadable}
use Rattle.amount.specs.Choose.{◌if◌else◌}
use Rattle.amount.specs.Value.{from_words}
use Rattle.hash.specs.Hashes.{join}
use Rattle.model.specs.Record.{Header, Reason, same_tip, neither, peer_only, local_only, peer_work, local_work, peer_tip, local_tip, peer_hash, local_hash, off_spine, competing_fork, stale_fork, Copy}
use Rattle.block.specs.declared.Quad.{Quad}

-- four words as a group, which is 0 past them
abbrev pub quad : ℕ → ℕ → ℕ → ℕ → ℕ → ℕ
quad a b c d i = a if eqb i 0 else b if eqb i 1 else c if eqb i 2 else d if eqb i 3 else 0

abbrev pub group : Quad → ℕ → ℕ
group q = quad q.a q.b q.c q.d

-- ---- parts ----

abbrev pub hash_of : (ℕ → ℕ) → ℕ
hash_of g = join (g 0) (g 1) (g 2) (g 3)

abbrev pub amount_of : ℕ → ℕ → ℕ → Amount
amount_of kind x y = readable (from_words x y) if eqb kind 1 else unreadable

-- 2^63
abbrev pub half : ℕ
half = 9223372036854775808

abbrev pub time_of : ℕ → ℕ → Option ℤ
time_of kind w = none if eqb kind 0 else some (pos (w % half)) if eqb kind 1 else some (negsuc (w % half))

-- kinds in the order of the model's reasons; any other kind is the last
unfoldable pub reason_of : ℕ → (ℕ → ℕ) → Reason
reason_of kind g =
    same_tip (hash_of g) if eqb kind 1 else
    neither if eqb kind 2 else
    peer_only (from_words (g 0) (g 1)) if eqb kind 3 else
    local_only (from_words (g 0) (g 1)) if eqb kind 4 else
    peer_work (from_words (g 0) (g 1)) (from_words (g 2) (g 3)) if eqb kind 5 else
    local_work (from_words (g 0) (g 1)) (from_words (g 2) (g 3)) if eqb kind 6 else
    peer_tip (g 0) (g 1) if eqb kind 7 else
    local_tip (g 0) (g 1) if eqb kind 8 else
    peer_hash if eqb kind 9 else
    local_hash if eqb kind 10 else
    off_spine if eqb kind 11 else
    competing_fork if eqb kind 12 else
    stale_fork

unfoldable pub why_of : ℕ → (ℕ → ℕ) → Option Reason
why_of kind g = none if eqb kind 0 else some (reason_of kind g)

abbrev pub competing_of : Bool → (ℕ → ℕ) → Option ℕ
competing_of there g = some (hash_of g) if there else none

-- ---- the state word of a copy: 0 none; otherwise 1, and 1 more if orphaned, 2 if canonical, 4 if there is a competing hash ----

abbrev pub is_orphaned : ℕ → Bool
is_orphaned s = eqb ((s - 1) % 2) 1

abbrev pub is_canonical : ℕ → Bool
is_canonical s = eqb ((s - 1) / 2 % 2) 1

abbrev pub is_competing : ℕ → Bool
is_competing s = eqb ((s - 1) / 4 % 2) 1

-- ---- whole parts of a record ----

-- (state, time kind, time, reason kind), the reason's four, the competing hash's four
unfoldable pub copy_of : (ℕ → ℕ) → (ℕ → ℕ) → (ℕ → ℕ) → Option Copy
copy_of s r h =
    none if eqb (s 0) 0 else
    some (record { orphaned = is_orphaned (s 0); canonical = is_canonical (s 0); time = time_of (s 1) (s 2); reason = why_of (s 3) r; competing = competing_of (is_competing (s 0)) h })

-- hash, previous hash, (index, epoch, target kind, actual kind), (target's two, actual's two)
unfoldable pub header_of : (ℕ → ℕ) → (ℕ → ℕ) → (ℕ → ℕ) → (ℕ → ℕ) → Header
header_of h v i w = record { hash = hash_of h; index = i 0; epoch = i 1; prev = hash_of v; target = amount_of (i 2) (w 0) (w 1); actual = amount_of (i 3) (w 2) (w 3) }
