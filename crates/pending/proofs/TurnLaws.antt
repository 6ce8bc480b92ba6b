-- Steps of the contest of turns, one after another; and live blocks that become pending, one or all.
use mathlib.Core.Path.{◌≡◌, refl, ap}
use mathlib.Core.Bool.{Bool, true, false, ◌&&◌, ◌||◌}
use mathlib.Core.List.{List}
use Prim.Native.Nat.{ℕ, ◌+◌, ◌≤◌, ◌<◌}
use native.Mathlib.Omega.{arith}
use lib.Dec.{eqb, ltb}
use borrow.Author.Tests.{eqb-true, eqb-false, ltb-true, ltb-false, lt-ltb, le-ltb}
use Rattle.model.specs.Holding.{Cell, is_live}
use Rattle.model.specs.Relink.{Pending}
use Rattle.model.proofs.Tools.{by_bool}
use Rattle.memory.specs.Layout.{Laid}
use Rattle.state.specs.View.{cells_of}
use Rattle.state.specs.Sound.{Used, SoundAt}
use Rattle.state.proofs.TreeSteps.{tree_cells, tree_laid, tree_sound}
use Rattle.pending.specs.Pending.{PendOnly, Turns}
use Rattle.pending.proofs.PendLaws.{pend_same, pend_then, pend_tree, pends_same}
use Rattle.pending.proofs.NextLaws.{live_used}

-- ---- one step after another ----

module _ (m m' : List ℕ) (n : ℕ) (laid : Laid m n) (o : PendOnly m m' n) where
  pub pend_laid : Laid m' n
  pend_laid = tree_laid m m' n (pend_tree m m' n laid o) laid

  pub pend_sound : SoundAt m n → SoundAt m' n
  pend_sound = tree_sound m m' n (pend_tree m m' n laid o)

  pub pend_cell : (q : ℕ) → cells_of m' n q ≡ cells_of m n q
  pend_cell q = ap (λ (g : ℕ → Cell). g q) (tree_cells m m' n (pend_tree m m' n laid o))

-- nothing is done
pub turns_none : (m : List ℕ) (n : ℕ) (P : Type 0) (f : Pending → Pending) → (SoundAt m n → P → (pend : Pending) (q : ℕ) → q < n → pend q ≡ f pend q) → Turns m m n P f
turns_none m n P f e = record { only = pend_same m n; right = λ s p pend a. pends_same m n pend (f pend) (e s p pend) a }

-- .. or what is done is called by another name, under what tells more
pub turns_as : (m m' : List ℕ) (n : ℕ) (P Q : Type 0) (f g : Pending → Pending) → (SoundAt m n → Q → P)
    → (SoundAt m n → Q → (pend : Pending) (q : ℕ) → q < n → f pend q ≡ g pend q) → Turns m m' n P f → Turns m m' n Q g
turns_as m m' n P Q f g of e t = record { only = t.only; right = λ s p pend a. pends_same m' n (f pend) (g pend) (e s p pend) (t.right s (of s p) pend a) }

pub turns_then : (m m₁ m₂ : List ℕ) (n : ℕ) (P Q : Type 0) (f g h : Pending → Pending) → Laid m n → (SoundAt m n → P → Q)
    → (SoundAt m n → P → (pend : Pending) (q : ℕ) → q < n → g (f pend) q ≡ h pend q) → Turns m m₁ n P f → Turns m₁ m₂ n Q g → Turns m m₂ n P h
turns_then m m₁ m₂ n P Q f g h laid of e a b = record {
  only = pend_then m m₁ m₂ n a.only b.only;
  right = λ s p pend x. pends_same m₂ n (g (f pend)) (h pend) (e s p pend) (b.right (pend_sound m m₁ n laid a.only s) (of s p) (f pend) (a.right s p pend x));
}

-- ---- a live block ----

module _ (m m' : List ℕ) (n p : ℕ) where
  abbrev pub LiveOne : Type 0
  LiveOne = Turns m m' n (Unit {0}) (λ pend q. pend q || (eqb q p && is_live (cells_of m n q)))

  pub one_live : is_live (cells_of m n p) ≡ true → Turns m m' n (Used m p) (λ pend q. pend q || eqb q p) → LiveOne
  one_live e =
      turns_as m m' n (Used m p) (Unit {0}) (λ pend q. pend q || eqb q p) (λ pend q. pend q || (eqb q p && is_live (cells_of m n q))) (λ s u. live_used m n p e)
      (λ s u pend q h. ap (λ (b : Bool). pend q || b) (test q))
    where
      test : (q : ℕ) → eqb q p ≡ (eqb q p && is_live (cells_of m n q))
      test q = by_bool (eqb q p) (λ i. let z : q ≡ p = eqb-true q p i in rw (i, z, e)) (λ i. rw i)

-- ---- every live block ----

-- those below i
abbrev pub LiveBelow : List ℕ → List ℕ → ℕ → ℕ → Type 0
LiveBelow m m' n i = Turns m m' n (Unit {0}) (λ pend q. pend q || (ltb q i && is_live (cells_of m n q)))

pub or_swap : (u v : Bool) → (u || v) ≡ (v || u)
or_swap true true = refl
or_swap true false = refl
or_swap false true = refl
or_swap false false = refl

-- a test by two, as tests of each
pub both : (a l u v w : Bool) → (u || v) ≡ w → ((a || (u && l)) || (v && l)) ≡ (a || (w && l))
both true l u v w e = refl
both false true true v w e = rw (← e)
both false true false true w e = rw (← e)
both false true false false w e = rw (← e)
both false false true true w e = by_bool w (λ i. rw i) (λ i. rw i)
both false false true false w e = by_bool w (λ i. rw i) (λ i. rw i)
both false false false true w e = by_bool w (λ i. rw i) (λ i. rw i)
both false false false false w e = by_bool w (λ i. rw i) (λ i. rw i)

below_more : (q i : ℕ) → (ltb q i || eqb q i) ≡ ltb q (i + 1)
below_more q i =
    by_bool (eqb q i) (λ e. let z : q ≡ i = eqb-true q i e in rw (e, le-ltb q i (omega arith), lt-ltb q (i + 1) (omega arith)))
    (λ e. let ne : q ≡ i → ⊥ = eqb-false q i e in
    by_bool (ltb q i) (λ l. let k = ltb-true q i l in rw (l, lt-ltb q (i + 1) (omega arith))) (λ l. let k = ltb-false q i l in rw (e, l, le-ltb q (i + 1) (omega arith))))

pub live_more : (m m₁ m₂ : List ℕ) (n i : ℕ) → Laid m n → LiveBelow m m₁ n i → LiveOne m₁ m₂ n i → LiveBelow m m₂ n (i + 1)
live_more m m₁ m₂ n i laid a b =
    turns_then m m₁ m₂ n (Unit {0}) (Unit {0}) (λ pend q. pend q || (ltb q i && is_live (cells_of m n q))) (λ pend q. pend q || (eqb q i && is_live (cells_of m₁ n q)))
    (λ pend q. pend q || (ltb q (i + 1) && is_live (cells_of m n q))) laid (λ s u. u)
    (λ s u pend q h. rw (pend_cell m m₁ n laid a.only q) (both (pend q) (is_live (cells_of m n q)) (ltb q i) (eqb q i) (ltb q (i + 1)) (below_more q i))) a b

pub live_done : (m m' : List ℕ) (n i : ℕ) → n ≤ i → LiveBelow m m' n i → Turns m m' n (Unit {0}) (λ pend q. pend q || is_live (cells_of m n q))
live_done m m' n i l =
    turns_as m m' n (Unit {0}) (Unit {0}) (λ pend q. pend q || (ltb q i && is_live (cells_of m n q))) (λ pend q. pend q || is_live (cells_of m n q)) (λ s u. u)
    (λ s u pend q h. rw (lt-ltb q i (omega arith)))
