-- The code of one place put, and a pass over all places.
use mathlib.Core.Path.{◌≡◌, sym, ap, ◌∙◌}
use mathlib.Core.Bool.{true}
use mathlib.Core.List.{List}
use Prim.Native.Nat.{ℕ, ◌+◌, ◌≤◌, ◌<◌}
use native.Mathlib.Omega.{arith}
use lib.Dec.{eqb, ltb}
use borrow.Author.Tests.{eqb-true, eqb-false, lt-ltb, le-ltb, ltb-true, ltb-false}
use Rattle.amount.specs.Choose.{◌if◌else◌}
use Rattle.memory.specs.Words.{word}
use Rattle.memory.specs.Layout.{row, Laid}
use Rattle.model.specs.Places.{put_at}
use Rattle.model.specs.Numbers.{State}
use Rattle.model.specs.Holding.{Holdings, is_live}
use Rattle.model.proofs.Tools.{by_bool}
use Rattle.state.specs.Sound.{SoundAt, Used}
use Rattle.state.specs.View.{cells_of, view_at}
use Rattle.pending.specs.Pending.{PendOnly}
use Rattle.pending.proofs.PendLaws.{pend_same, pend_then, pend_view}
use Rattle.pending.proofs.TurnLaws.{pend_sound}
use Rattle.pending.proofs.NextLaws.{live_used}
use Rattle.walks.specs.Walked.{Lined}
use Rattle.writing.specs.Coded.{Coded}
use Rattle.writing.specs.Steps.{Codes}
use Rattle.writing.proofs.CodeLaws.{coded_same}
use Rattle.turning.specs.Turned.{turned}
use Rattle.turning.specs.declared.Turn.{Turn}
use Rattle.turning.proofs.TurnedLaws.{turned_live}

-- ---- the code of one place ----

module _ (m : List ℕ) (n p c : ℕ) where
  abbrev pub Puts : List ℕ → Type 0
  Puts m' = Codes m m' n ((c ≡ 0 → ⊥) → is_live (cells_of m n p) ≡ true) (λ f. put_at f p c)

  -- it is there already
  pub put_same : word m (row p + 59) ≡ c → Puts m
  put_same e = record {
    only = pend_same m n;
    right = λ s _ f a. coded_same m n f (put_at f p c) (λ q h. by_bool (eqb q p) (λ i. let z : q ≡ p = eqb-true q p i in rw i (sym (a.codes q h) ∙ ap (λ (x : ℕ). word m (row x + 59)) z ∙ e)) (λ i. rw i)) a;
  }

  pub put_none : (m' : List ℕ) → c ≡ 0 → Codes m m' n (Unit {0}) (λ f. put_at f p 0) → Puts m'
  put_none m' z k = record { only = k.only; right = λ s _ f a. rw z (k.right s tt f a) }

  pub put_some : (m' : List ℕ) → (c ≡ 0 → ⊥) → Codes m m' n (is_live (cells_of m n p) ≡ true) (λ f. put_at f p c) → Puts m'
  put_some m' x k = record { only = k.only; right = λ s e f a. k.right s (e x) f a }

-- ---- a pass ----

-- a walk that is noted stays noted
pub lined_kept : (m m' : List ℕ) (n top k : ℕ) → PendOnly m m' n → Lined m n top k → Lined m' n top k
lined_kept m m' n top k o l =
    let v : (view_at m' n).holdings ≡ (view_at m n).holdings = ap (λ (s : State). s.holdings) (pend_view m m' n o) in record {
      long = rw v l.long;
      short = l.short;
      at = λ d h. o.rows d 65 (omega (arith, l.short)) (omega arith) (omega arith) (omega arith) ∙ rw v (l.at d h);
    }

-- the places below i have their codes
abbrev pub up_to : (ℕ → ℕ) → (ℕ → ℕ) → ℕ → ℕ → ℕ
up_to g f i q = g q if ltb q i else f q

pub record Passing (m₀ m : List ℕ) (n : ℕ) (t : Turn) (top k i : ℕ) : Type 0 where
  pub only : PendOnly m₀ m n
  pub right : SoundAt m₀ n → Lined m₀ n top k → (f : ℕ → ℕ) → Coded m₀ n f → Coded m n (up_to (λ q. turned t (view_at m₀ n).holdings top q (f q)) f i)

module _ (m₀ : List ℕ) (n : ℕ) (t : Turn) (top k : ℕ) where
  pub passing_done : (m : List ℕ) (i : ℕ) → n ≤ i → Passing m₀ m n t top k i → Codes m₀ m n (Lined m₀ n top k) (λ f q. turned t (view_at m₀ n).holdings top q (f q))
  passing_done m i l p = record {
    only = p.only;
    right = λ s b f a. coded_same m n (up_to (λ q. turned t (view_at m₀ n).holdings top q (f q)) f i) (λ q. turned t (view_at m₀ n).holdings top q (f q)) (λ q h. rw (lt-ltb q i (omega arith))) (p.right s b f a);
  }

  module _ (m m₂ : List ℕ) (i c : ℕ) (laid : Laid m₀ n) (i<n : i < n) (p : Passing m₀ m n t top k i)
      (told : SoundAt m n → Lined m n top k → ((word m (row i + 59) ≡ 0 → ⊥) → Used m i) → c ≡ turned t (view_at m n).holdings top i (word m (row i + 59)))
      (put : Puts m n i c m₂) where
    same_view : (view_at m n).holdings ≡ (view_at m₀ n).holdings
    same_view = ap (λ (s : State). s.holdings) (pend_view m₀ m n p.only)

    step : (f : ℕ → ℕ) → c ≡ turned t (view_at m₀ n).holdings top i (f i) → (q : ℕ) → put_at (up_to (λ q. turned t (view_at m₀ n).holdings top q (f q)) f i) i c q ≡ up_to (λ q. turned t (view_at m₀ n).holdings top q (f q)) f (i + 1) q
    step f e q = by_bool (eqb q i)
        (λ x. let z : q ≡ i = eqb-true q i x in rw (x, lt-ltb q (i + 1) (omega arith)) (e ∙ rw z))
        (λ x. let ne = eqb-false q i x in by_bool (ltb q i) (λ y. rw (x, y, lt-ltb q (i + 1) (omega (arith, ltb-true q i y)))) (λ y. rw (x, y, le-ltb q (i + 1) (omega (arith, ltb-false q i y)))))

    more : SoundAt m₀ n → Lined m₀ n top k → (f : ℕ → ℕ) → Coded m₀ n f → Coded m₂ n (up_to (λ q. turned t (view_at m₀ n).holdings top q (f q)) f (i + 1))
    unfolding view_at
    more s l f a =
        let b = p.right s l f a in
        let s' = pend_sound m₀ m n laid p.only s in
        let w : word m (row i + 59) ≡ f i = b.codes i i<n ∙ rw (le-ltb i i (omega arith)) in
        let live : (f i ≡ 0 → ⊥) → is_live (cells_of m n i) ≡ true = (λ x. b.live i i<n (λ z. x (sym w ∙ b.codes i i<n ∙ z))) in
        let e : c ≡ turned t (view_at m n).holdings top i (word m (row i + 59)) = told s' (lined_kept m₀ m n top k p.only l) (λ x. live_used m n i (live (λ z. x (w ∙ z)))) in
        let e₀ : c ≡ turned t (view_at m₀ n).holdings top i (f i) = e ∙ ap (λ (h : Holdings). turned t h top i (word m (row i + 59))) same_view ∙ ap (turned t (view_at m₀ n).holdings top i) w in
        coded_same m₂ n (put_at (up_to (λ q. turned t (view_at m₀ n).holdings top q (f q)) f i) i c) (up_to (λ q. turned t (view_at m₀ n).holdings top q (f q)) f (i + 1)) (λ q h. step f e₀ q)
        (put.right s' (λ x. turned_live t (view_at m n).holdings top i (word m (row i + 59)) (λ y. live (λ z. y (w ∙ z))) (λ z. x (e ∙ z))) (up_to (λ q. turned t (view_at m₀ n).holdings top q (f q)) f i) b)

    pub passing_more : Passing m₀ m₂ n t top k (i + 1)
    passing_more = record { only = pend_then m₀ m m₂ n p.only put.only; right = more }
