-- The questions about the holdings: those that a word of the head answers, and the effective record.
use mathlib.Core.Path.{◌≡◌, refl, sym, ap, ◌∙◌, subst}
use mathlib.Core.List.{List}
use mathlib.Core.Option.{Option, none}
use Prim.Native.Nat.{ℕ, ◌≤◌, ◌<◌}
use native.Mathlib.Omega.{arith}
use Rattle.amount.specs.Choose.{◌if◌else◌}
use Rattle.model.specs.Questions.{HoldingsQuestion, effective_q, effective_count_q, generation_q, version_q, Reply, counted, shown, block_at, effective_at, holdings_reply, holdings_lent, too_short}
use Rattle.memory.specs.Words.{word}
use Rattle.memory.specs.Layout.{Laid}
use Rattle.model.specs.Holding.{place_of}
use Rattle.state.specs.View.{cells_of, view, view_at}
use Rattle.state.specs.Sound.{Sound, SoundAt, placed}
use Rattle.state.proofs.FindLaws.{placed_in, placed_out}
use Rattle.holdings.specs.Asked.{Asked}

-- a memory that is not laid out is not sound
pub asks_nowhere : (q : HoldingsQuestion) (m : List ℕ) (n r : ℕ) (y : Reply) → (Laid m (word m 0) → n ≡ word m 0) → n ≡ 0 → Asked q m r y
asks_nowhere q m n r y e z = record { number_is = λ s. never s; reply_is = λ s. never s }
  where
    never : {A : Type 0} → Sound m → A
    never s = let i = e s.laid in let o = s.laid.some in absurd (omega arith)

counts : (q : HoldingsQuestion) (m : List ℕ) (w : ℕ) → (Sound m → counted w ≡ holdings_reply (view m).holdings q) → Asked q m 0 (counted w)
counts q m w f = record { number_is = λ s. ap (λ (y : Reply). 13 if too_short (holdings_lent q) y else 0) (f s); reply_is = f }

pub asks_generation : (m : List ℕ) → Asked generation_q m 0 (counted (word m 2))
unfolding view_at
asks_generation m = counts generation_q m (word m 2) (λ s. refl)

pub asks_version : (m : List ℕ) → Asked version_q m 0 (counted (word m 3))
unfolding view_at
asks_version m = counts version_q m (word m 3) (λ s. refl)

pub asks_effective_count : (m : List ℕ) → Asked effective_count_q m 0 (counted (word m 11))
asks_effective_count m = counts effective_count_q m (word m 11) (λ s. ap counted s.effective)

-- ---- the effective record ----

module _ (m : List ℕ) (n p x : ℕ) (e : Laid m (word m 0) → n ≡ word m 0) (at : SoundAt m n → place_of (view_at m n).holdings x ≡ placed n p) where
  there : (o : Option ℕ) → placed n p ≡ o → Sound m → place_of (view m).holdings x ≡ o
  there o f s = subst (λ (i : ℕ). place_of (view_at m i).holdings x ≡ o) (e s.laid) (at (subst (SoundAt m) (sym (e s.laid)) s) ∙ f)

  pub asks_absent : n ≤ p → Asked (effective_q x) m 0 (shown none)
  asks_absent l = record { number_is = λ s. refl; reply_is = λ s. ap (λ (o : Option ℕ). shown (effective_at (view m).holdings o)) (sym (there none (placed_out n p l) s)) }

  module _ (r : ℕ) (y : Reply) (number : r ≡ 0) (reply : y ≡ shown (block_at (cells_of m n p))) where
    cell : Sound m → shown (block_at (cells_of m n p)) ≡ shown (block_at ((view m).holdings.cells p))
    unfolding view_at
    cell s = ap (λ (i : ℕ). shown (block_at (cells_of m i p))) (e s.laid)

    pub asks_effective : p < n → Asked (effective_q x) m r y
    asks_effective l = record {
      number_is = λ s. number;
      reply_is = λ s. reply ∙ cell s ∙ ap (λ (o : Option ℕ). shown (effective_at (view m).holdings o)) (sym (there _ (placed_in n p l) s));
    }
