-- Document 01, "Comparing two chains": each part of the comparison as its tests turned out, and that the parts are the model's `by_work`.
use Prim.Native.Nat.{ℕ, ◌<◌, ◌≤◌}
use mathlib.Core.Path.{◌≡◌}
use mathlib.Core.Bool.{true, false}
use native.Mathlib.Nat.{le_of_lt}
use lib.Dec.{eqb, ltb}
use borrow.Author.Tests.{lt-ltb, le-ltb}
use Rattle.amount.proofs.Promises.{Tests}
use Rattle.model.specs.Record.{same_tip, neither, peer_only, local_only, peer_work, local_work, peer_tip, local_tip, peer_hash, local_hash}
use Rattle.model.specs.Comparing.{known, unknown, Side, Comparison, ◌because◌, equal, keep_local, adopt_peer, by_work, choose_verified}
use Rattle.choice.specs.Parts.{by_hash, by_tip, by_total}

module _ (us them : ℕ) where
  -- lower hash
  pub lower_hash_lem : ltb them us ≡ true → (adopt_peer because peer_hash) ≡ by_hash us them
  unfolding by_hash
  lower_hash_lem e = rw e

  pub other_hash : ltb them us ≡ false → (keep_local because local_hash) ≡ by_hash us them
  unfolding by_hash
  other_hash e = rw e

  module _ (rest : Comparison) where
    -- greater tip index
    pub peer_tip_lem : us < them → (adopt_peer because peer_tip them us) ≡ by_tip us them rest
    unfolding by_tip
    peer_tip_lem h = rw (lt-ltb us them h)

    pub local_tip_lem : them < us → (keep_local because local_tip us them) ≡ by_tip us them rest
    unfolding by_tip
    local_tip_lem h = rw (le-ltb us them (le_of_lt h), lt-ltb them us h)

    pub same_tip_lem : them ≤ us → us ≤ them → rest ≡ by_tip us them rest
    unfolding by_tip
    same_tip_lem h k = rw (le-ltb us them h, le-ltb them us k)

    -- greater work
    pub peer_work_lem : Tests us them true false false → (adopt_peer because peer_work them us) ≡ by_total us them rest
    unfolding by_total
    peer_work_lem t = rw t.less_is

    pub local_work_lem : Tests us them false false true → (keep_local because local_work us them) ≡ by_total us them rest
    unfolding by_total
    local_work_lem t = rw (t.less_is, t.greater_is)

    pub same_work : Tests us them false true false → rest ≡ by_total us them rest
    unfolding by_total
    same_work t = rw (t.less_is, t.greater_is)

-- `choose_verified` in order: same tip hash, ..
module _ (us them : Side) where
  pub same_hash : eqb us.hash them.hash ≡ true → (equal because same_tip us.hash) ≡ choose_verified us them
  unfolding choose_verified
  same_hash e = rw e

  -- .. both unknown; the only known side; ..
  module _ (e : eqb us.hash them.hash ≡ false) where
    pub both_unknown_lem : us.work ≡ unknown → them.work ≡ unknown → (keep_local because neither) ≡ choose_verified us them
    unfolding choose_verified by_work
    both_unknown_lem p q = rw (e, p, q)

    pub only_peer : {r : ℕ} → us.work ≡ unknown → them.work ≡ known r → (adopt_peer because peer_only r) ≡ choose_verified us them
    unfolding choose_verified by_work
    only_peer p q = rw (e, p, q)

    pub only_local : {w : ℕ} → us.work ≡ known w → them.work ≡ unknown → (keep_local because local_only w) ≡ choose_verified us them
    unfolding choose_verified by_work
    only_local p q = rw (e, p, q)

    -- .. work, tip index, hash
    pub both_known : {w r : ℕ} → us.work ≡ known w → them.work ≡ known r → by_total w r (by_tip us.index them.index (by_hash us.hash them.hash)) ≡ choose_verified us them
    unfolding choose_verified by_work by_total by_tip by_hash
    both_known p q = rw (e, p, q)
