-- Places that each have at most one parent, whose index is one less. A change at one place that makes only its children due: how often that can happen.
use Prim.Native.Nat.{ℕ, zero, suc, ◌+◌, ◌-◌, ◌≤◌, ◌<◌}
use mathlib.Core.Path.{◌≡◌, refl, sym, ◌∙◌, ap}
use mathlib.Core.Bool.{Bool, true, false, cond, ◌&&◌}
use mathlib.Core.Option.{Option, none, some}
use native.Mathlib.Omega.{arith}
use lib.Dec.{eqb}
use borrow.Author.Tests.{eqb-true, eq-eqb}
use Rattle.model.specs.Places.{count, sum}
use Rattle.model.proofs.Sums.{sum_moves, sum_below, sum_none, count_below, count_one}
use Rattle.model.proofs.Tools.{by_bool, no_both, no_none, and_left, and_right}

-- ---- the places above ----

-- a place that is there, and is this one
abbrev pub is_at : ℕ → Option ℕ → Bool
is_at a none = false
is_at a (some b) = eqb a b

pub is_at-true : (a : ℕ) (o : Option ℕ) → is_at a o ≡ true → o ≡ some a
is_at-true a none e = no_both false e refl
is_at-true a (some b) e = ap {B = Option ℕ} some (sym (eqb-true a b e))

pub is_at_is : (a : ℕ) (o : Option ℕ) → o ≡ some a → is_at a o ≡ true
is_at_is a o e = rw e (eq-eqb a a refl)

-- k steps up
unfoldable pub step_up : (ℕ → Option ℕ) → Option ℕ → Option ℕ
step_up par none = none
step_up par (some p) = par p

unfoldable pub up : (ℕ → Option ℕ) → ℕ → ℕ → Option ℕ
up par zero q = some q
up par (suc k) q = step_up par (up par k q)

-- a is q, or q's parent, or the parent of that, ..
unfoldable pub over : (ℕ → Option ℕ) → (ℕ → ℕ) → ℕ → ℕ → Bool
over par idx a q = is_at a (up par (idx q - idx a) q)

-- how many due places are above q, itself included
unfoldable pub above : (ℕ → Option ℕ) → (ℕ → ℕ) → ℕ → (ℕ → Bool) → ℕ → ℕ
above par idx n due q = count (λ a. due a && over par idx a q) n

pub above_small : (par : ℕ → Option ℕ) (idx : ℕ → ℕ) (n : ℕ) (due : ℕ → Bool) (q : ℕ) → above par idx n due q ≤ n
unfolding above
above_small par idx n due q = count_below (λ a. due a && over par idx a q) n

module _ (par : ℕ → Option ℕ) (idx : ℕ → ℕ) (rises : (q p : ℕ) → par q ≡ some p → idx q ≡ suc (idx p)) where
  step_some : (o : Option ℕ) (a : ℕ) → step_up par o ≡ some a → (b : ℕ) × (o ≡ some b) × (par b ≡ some a)
  unfolding step_up
  step_some none a e = no_none none refl e
  step_some (some b) a e = (b, refl, e)

  up_idx : (k q a : ℕ) → up par k q ≡ some a → idx q ≡ k + idx a
  unfolding up
  up_idx zero q a e = let z : q ≡ a = cc in rw z (omega arith)
  up_idx (suc k) q a e = let s = step_some (up par k q) a e in let i = up_idx k q s.0 s.1 in let j = rises s.0 a s.2 in omega arith

  over_self : (p : ℕ) → over par idx p p ≡ true
  unfolding over up
  over_self p = let z : idx p - idx p ≡ 0 = omega arith in rw z (eq-eqb p p refl)

  over-up : (a q : ℕ) → over par idx a q ≡ true → up par (idx q - idx a) q ≡ some a
  unfolding over
  over-up a q e = is_at-true a (up par (idx q - idx a) q) e

  -- above a child is above its parent
  over_parent : (c p q : ℕ) → par c ≡ some p → over par idx c q ≡ true → over par idx p q ≡ true
  unfolding over up step_up
  over_parent c p q e o =
      let u = over-up c q o in
      let i = up_idx (idx q - idx c) q c u in
      let j = rises c p e in
      let z : idx q - idx p ≡ suc (idx q - idx c) = omega arith in
      rw z (rw u (is_at_is p (par c) e))

  -- one child of p at most is above q, and none is above p
  over_one : (p q c d : ℕ) → par c ≡ some p → par d ≡ some p → over par idx c q ≡ true → over par idx d q ≡ true → c ≡ d
  over_one p q c d e f o r =
      let i : idx c ≡ idx d = rises c p e ∙ sym (rises d p f) in
      let u = over-up c q o in
      let w = over-up d q r in
      let w' : up par (idx q - idx c) q ≡ some d = rw i w in
      let z : ◌≡◌ {A = Option ℕ} (some c) (some d) = sym u ∙ w' in
      cc

  over_not : (p c : ℕ) → par c ≡ some p → over par idx c p ≡ false
  over_not p c e = by_bool (over par idx c p) (λ o. absurd (let i = up_idx (idx p - idx c) p c (over-up c p o) in let j = rises c p e in omega arith)) (λ o. o)

  -- p was due and is no more, and no other place became due but children of p
  module _ (n p : ℕ) (below : p < n) (f g : ℕ → Bool) (was : f p ≡ true) (is : g p ≡ false) (others : (q : ℕ) → eqb q p ≡ false → (par q ≡ some p → ⊥) → g q ≡ f q) where
    abbrev fresh : ℕ → ℕ → Bool
    fresh q a = is_at p (par a) && over par idx a q

    term : (q a : ℕ) → eqb a p ≡ false → cond (g a && over par idx a q) 1 0 ≤ cond (f a && over par idx a q) 1 0 + cond (fresh q a) 1 0
    term q a i = by_bool (is_at p (par a)) (λ e. rw e (go (g a) (f a) (over par idx a q))) (λ e. rw (others a i (λ z. no_both (is_at p (par a)) (is_at_is p (par a) z) e)) (omega arith))
      where
        go : (x y z : Bool) → cond (x && z) 1 0 ≤ cond (y && z) 1 0 + cond z 1 0
        go true true true = omega arith
        go true true false = omega arith
        go true false true = omega arith
        go true false false = omega arith
        go false y true = omega arith
        go false y false = omega arith

    fresh_par : (q a : ℕ) → fresh q a ≡ true → par a ≡ some p
    fresh_par q a e = is_at-true p (par a) (and_left (is_at p (par a)) (over par idx a q) e)

    fresh-over : (q a : ℕ) → fresh q a ≡ true → over par idx a q ≡ true
    fresh-over q a e = and_right (is_at p (par a)) (over par idx a q) e

    few : (q : ℕ) → count (fresh q) n ≤ 1
    few q = count_one (fresh q) n (λ c d i j. over_one p q c d (fresh_par q c i) (fresh_par q d j) (fresh-over q c i) (fresh-over q d j))

    nobody : (q : ℕ) → over par idx p q ≡ false → count (fresh q) n ≡ 0
    nobody q e = sum_none (fresh q) n (λ c i. by_bool (fresh q c) (λ k. no_both (over par idx p q) (over_parent c p q (fresh_par q c k) (fresh-over q c k)) e) (λ k. k))

    childless : count (fresh p) n ≡ 0
    childless = sum_none (fresh p) n (λ c i. by_bool (fresh p c) (λ k. no_both (over par idx c p) (fresh-over p c k) (over_not p c (fresh_par p c k))) (λ k. k))

    -- above every place there are no more due places than before, and above p one less
    pub above_same : (q : ℕ) → above par idx n g q ≤ above par idx n f q
    unfolding above
    above_same q =
        by_bool (over par idx p q)
        (λ o. omega (arith, few q, sum_moves (λ a. cond (f a && over par idx a q) 1 0) (λ a. cond (g a && over par idx a q) 1 0) (λ a. cond (fresh q a) 1 0) n 1 p below (rw (is, was, o) (omega arith)) (term q)))
        (λ o. omega (arith, nobody q o, sum_moves (λ a. cond (f a && over par idx a q) 1 0) (λ a. cond (g a && over par idx a q) 1 0) (λ a. cond (fresh q a) 1 0) n 0 p below (rw (is, was, o) (omega arith)) (term q)))

    pub above_less : above par idx n g p + 1 ≤ above par idx n f p
    unfolding above
    above_less = omega (arith, childless, sum_moves (λ a. cond (f a && over par idx a p) 1 0) (λ a. cond (g a && over par idx a p) 1 0) (λ a. cond (fresh p a) 1 0) n 1 p below (rw (is, was, over_self p) (omega arith)) (term p))

    pub dues_fall : sum (above par idx n g) n + 1 ≤ sum (above par idx n f) n
    dues_fall = let z : sum (λ q. 0) n ≡ 0 = zeros n in omega (arith, z, sum_moves (above par idx n f) (above par idx n g) (λ q. 0) n 1 p below above_less (λ q i. omega (arith, above_same q)))
      where
        zeros : (k : ℕ) → sum (λ q. 0) k ≡ 0
        zeros k = omega (arith, sum_below (λ q. 0) k 0 (λ q. omega arith))
