-- Laws of the comparison: when each outcome is given, the reason tells the outcome, swapped sides swap it.
use Prim.Native.Nat.{ℕ}
use mathlib.Core.Path.{◌≡◌, refl, sym}
use mathlib.Core.Bool.{Bool, true, false}
use native.Mathlib.Omega.{arith}
use lib.Dec.{eqb, ltb}
use borrow.Author.Tests.{eqb-true, eqb-false, eq-eqb, ne_eqb, ltb-true, ltb-false, lt-ltb, le-ltb}
use Rattle.model.specs.Record.{Reason, same_tip, neither, peer_only, local_only, peer_work, local_work, peer_tip, local_tip, peer_hash, local_hash, off_spine, competing_fork, stale_fork}
use Rattle.model.specs.Comparing.{Work, known, unknown, Side, Outcome, equal, keep_local, adopt_peer, by_work, choose_verified}
use Rattle.model.proofs.Tools.{by_bool, no_both}

other_way : (a b : ℕ) → ltb a b ≡ true → ltb b a ≡ false
other_way a b e = le-ltb b a (omega (arith, ltb-true a b e))

differ : (a b : ℕ) → eqb a b ≡ false → eqb b a ≡ false
differ a b e = ne_eqb b a (λ z. eqb-false a b e (sym z))

-- ---- the reason tells the outcome ----

-- the outcome that a reason belongs to; demotions and stale forks are no comparison's, and count as keeping
abbrev pub told : Reason → Outcome
told (same_tip x) = equal
told neither = keep_local
told (peer_only r) = adopt_peer
told (local_only w) = keep_local
told (peer_work r w) = adopt_peer
told (local_work w r) = keep_local
told (peer_tip r w) = adopt_peer
told (local_tip w r) = keep_local
told peer_hash = adopt_peer
told local_hash = keep_local
told off_spine = keep_local
told competing_fork = keep_local
told stale_fork = keep_local

told-by_work : (us them : Side) (a b : Work) → (by_work us them a b).outcome ≡ told (by_work us them a b).reason
unfolding by_work
told-by_work us them unknown unknown = refl
told-by_work us them unknown (known r) = refl
told-by_work us them (known w) unknown = refl
told-by_work us them (known w) (known r) =
    by_bool (ltb w r) (λ a. rw a) (λ a. by_bool (ltb r w) (λ b. rw (a, b)) (λ b. by_bool (ltb us.index them.index) (λ c. rw (a, b, c)) (λ c. by_bool (ltb them.index us.index) (λ d. rw (a, b, c, d)) (λ d. by_bool (ltb them.hash us.hash) (λ e. rw (a, b, c, d, e)) (λ e. rw (a, b, c, d, e))))))

pub reason_tells : (us them : Side) → (choose_verified us them).outcome ≡ told (choose_verified us them).reason
unfolding choose_verified
reason_tells us them = by_bool (eqb us.hash them.hash) (λ e. rw e) (λ e. rw e (told-by_work us them us.work them.work))

-- ---- Equal exactly for the same tip hash ----

pub same_equal : (us them : Side) → us.hash ≡ them.hash → choose_verified us them ≡ record { outcome = equal; reason = same_tip us.hash }
unfolding choose_verified
same_equal us them e = rw (eq-eqb us.hash them.hash e)

never_equal : (us them : Side) (a b : Work) → (by_work us them a b).outcome ≡ equal → ⊥
unfolding by_work
never_equal us them unknown unknown e = let z : ◌≡◌ {A = ℕ} 0 1 = cc in omega arith
never_equal us them unknown (known r) e = let z : ◌≡◌ {A = ℕ} 0 1 = cc in omega arith
never_equal us them (known w) unknown e = let z : ◌≡◌ {A = ℕ} 0 1 = cc in omega arith
never_equal us them (known w) (known r) e =
    by_bool (ltb w r) (λ a. adopts (rw a at e)) (λ a. by_bool (ltb r w) (λ b. keeps (rw (a, b) at e)) (λ b. by_bool (ltb us.index them.index) (λ c. adopts (rw (a, b, c) at e)) (λ c. by_bool (ltb them.index us.index) (λ d. keeps (rw (a, b, c, d) at e)) (λ d. by_bool (ltb them.hash us.hash) (λ f. adopts (rw (a, b, c, d, f) at e)) (λ f. keeps (rw (a, b, c, d, f) at e))))))
  where
    adopts : adopt_peer ≡ equal → ⊥
    adopts e = let z : ◌≡◌ {A = ℕ} 0 1 = cc in omega arith

    keeps : keep_local ≡ equal → ⊥
    keeps e = let z : ◌≡◌ {A = ℕ} 0 1 = cc in omega arith

pub equal_same : (us them : Side) → (choose_verified us them).outcome ≡ equal → us.hash ≡ them.hash
unfolding choose_verified
equal_same us them e = by_bool (eqb us.hash them.hash) (λ t. eqb-true us.hash them.hash t) (λ t. absurd (never_equal us them us.work them.work (rw t at e)))

-- ---- swapped sides swap the outcome, unless both are unknown: then each keeps its own ----

abbrev pub opposite : Outcome → Outcome
opposite equal = equal
opposite keep_local = adopt_peer
opposite adopt_peer = keep_local

abbrev pub both_unknown : Work → Work → Bool
both_unknown unknown unknown = true
both_unknown unknown (known r) = false
both_unknown (known w) unknown = false
both_unknown (known w) (known r) = false

swap_work : (us them : Side) (a b : Work) → eqb us.hash them.hash ≡ false → both_unknown a b ≡ false → (by_work them us b a).outcome ≡ opposite (by_work us them a b).outcome
unfolding by_work
swap_work us them unknown unknown n u = no_both true refl u
swap_work us them unknown (known r) n u = refl
swap_work us them (known w) unknown n u = refl
swap_work us them (known w) (known r) n u =
    by_bool (ltb w r) (λ a. rw (a, other_way w r a)) (λ a. by_bool (ltb r w) (λ b. rw (a, b)) (λ b. by_bool (ltb us.index them.index) (λ c. rw (a, b, c, other_way us.index them.index c)) (λ c. by_bool (ltb them.index us.index) (λ d. rw (a, b, c, d)) (λ d. by_bool (ltb them.hash us.hash) (λ e. rw (a, b, c, d, e, other_way them.hash us.hash e)) (λ e. rw (a, b, c, d, e, higher e))))))
  where
    higher : ltb them.hash us.hash ≡ false → ltb us.hash them.hash ≡ true
    higher e = let ne : us.hash ≡ them.hash → ⊥ = eqb-false us.hash them.hash n in lt-ltb us.hash them.hash (omega (arith, ltb-false them.hash us.hash e))

pub swap_sides : (us them : Side) → both_unknown us.work them.work ≡ false → (choose_verified them us).outcome ≡ opposite (choose_verified us them).outcome
unfolding choose_verified
swap_sides us them u = by_bool (eqb us.hash them.hash) (λ e. rw (e, eq-eqb them.hash us.hash (sym (eqb-true us.hash them.hash e)))) (λ e. rw (e, differ us.hash them.hash e) (swap_work us them us.work them.work e u))

pub unknown_keeps : (us them : Side) → us.work ≡ unknown → them.work ≡ unknown → (us.hash ≡ them.hash → ⊥) → choose_verified us them ≡ record { outcome = keep_local; reason = neither }
unfolding choose_verified by_work
unknown_keeps us them u t n = rw (ne_eqb us.hash them.hash n, u, t)
