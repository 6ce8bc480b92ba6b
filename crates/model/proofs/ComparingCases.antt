-- Document 01 by small examples, all computed: "Comparing two chains".
use Prim.Native.Nat.{ℕ}
use mathlib.Core.Path.{◌≡◌, refl}
use mathlib.Core.Bool.{true, false}
use Rattle.model.specs.Record.{same_tip, neither, peer_only, local_only, peer_work, local_work, peer_tip, local_tip, peer_hash, local_hash, Header}
use Rattle.model.specs.Comparing.{Work, known, unknown, Side, equal, keep_local, adopt_peer, ◌because◌, by_work, choose_verified, is_adopted, covers}
use Rattle.model.proofs.Cases.{plain, block}

-- a chain: its work, its tip's index and hash
abbrev side : Work → ℕ → ℕ → Side
side work index hash = record { work = work; index = index; hash = hash }

-- same tip hash, Equal: before work and index, known or not
same_first : (choose_verified (side (known 3) 1 20) (side (known 9) 7 20) ≡ (equal because same_tip 20)) × (choose_verified (side unknown 1 20) (side unknown 1 20) ≡ (equal because same_tip 20))
unfolding choose_verified
same_first = (refl, refl)

-- both unknown, keep local; the only known side wins: a higher tip or a lower hash changes nothing
only_known : (choose_verified (side unknown 1 20) (side unknown 7 10) ≡ (keep_local because neither)) × (choose_verified (side unknown 7 10) (side (known 3) 1 20) ≡ (adopt_peer because peer_only 3)) × (choose_verified (side (known 3) 1 20) (side unknown 7 10) ≡ (keep_local because local_only 3))
unfolding choose_verified by_work
only_known = (refl, refl, refl)

-- greater work, the winner's first: a higher tip does not beat it
greater_work : (choose_verified (side (known 3) 7 10) (side (known 4) 1 20) ≡ (adopt_peer because peer_work 4 3)) × (choose_verified (side (known 4) 1 20) (side (known 3) 7 10) ≡ (keep_local because local_work 4 3))
unfolding choose_verified by_work
greater_work = (refl, refl)

-- greater tip index, the winner's first: a lower hash does not beat it
greater_tip : (choose_verified (side (known 3) 1 10) (side (known 3) 2 20) ≡ (adopt_peer because peer_tip 2 1)) × (choose_verified (side (known 3) 2 20) (side (known 3) 1 10) ≡ (keep_local because local_tip 2 1))
unfolding choose_verified by_work
greater_tip = (refl, refl)

-- lower hash
lower_hash_lem : (choose_verified (side (known 3) 1 20) (side (known 3) 1 10) ≡ (adopt_peer because peer_hash)) × (choose_verified (side (known 3) 1 10) (side (known 3) 1 20) ≡ (keep_local because local_hash))
unfolding choose_verified by_work
lower_hash_lem = (refl, refl)

-- Equal is no adoption.
adopting : (is_adopted equal ≡ false) × (is_adopted keep_local ≡ false) × (is_adopted adopt_peer ≡ true)
adopting = (refl, refl, refl)

-- a tip at this index, of this epoch
abbrev at : ℕ → ℕ → Header
at index epoch = (block 1 index 0 epoch 1 1 plain).header

-- Covers its nomination epoch. n = 10, epoch 2: index 9 covers, 8 doesn't; epoch 3: index 19, 18. Epoch below 2, and blocks per epoch 0: always.
covering : (covers 10 (at 9 2) ≡ true) × (covers 10 (at 8 2) ≡ false) × (covers 10 (at 19 3) ≡ true) × (covers 10 (at 18 3) ≡ false) × (covers 10 (at 0 1) ≡ true) × (covers 0 (at 0 7) ≡ true)
unfolding covers
covering = (refl, refl, refl, refl, refl, refl)

-- .. each step saturating at 64 bits: with n = 2^64 - 1 the last index below 2^64 - 1 covers, as does no other.
saturating : (covers 18446744073709551615 (at 18446744073709551614 3) ≡ true) × (covers 18446744073709551615 (at 18446744073709551613 3) ≡ false) × (covers 18446744073709551615 (at 18446744073709551614 18446744073709551615) ≡ true)
unfolding covers
saturating = (refl, refl, refl)
