-- What is written for a host says what was answered inside.
use mathlib.Core.List.{List}
use mathlib.Core.Path.{◌≡◌, refl, sym, ap, ◌∙◌, subst}
use Prim.Native.Nat.{ℕ}
use native.Mathlib.Omega.{arith}
use lib.ListN.{length}
use Rattle.amount.specs.Amounts.{Amount as Meaning}
use Rattle.amount.specs.Value.{from_words, value, meant}
use Rattle.amount.specs.declared.Amount.{Amount}
use Rattle.amount.specs.declared.Reading.{Reading}
use Rattle.amount.specs.declared.Reading.TheVariants.{Readable, Unreadable}
use Rattle.block.specs.Answers.{counted_number, counted_reply, refusal_number}
use Rattle.block.specs.declared.Counted.{Counted}
use Rattle.block.specs.declared.Counted.TheVariants.{Count, Refused as CountRefused}
use Rattle.block.specs.declared.Refusal.{Refusal}
use Rattle.block.specs.declared.Refusal.TheVariants.{Room, Kind, Index, Header, Full, Version, Loaded, Generation, Unknown, Value, Final, Stale, List as Short}
use Rattle.holdings.specs.Asked.{Asked}
use Rattle.memory.specs.Words.{word, Stored}
use Rattle.memory.proofs.WordLaws.{stored_same, stored_other, stored_long}
use Rattle.model.specs.Numbers.{ask_holdings}
use Rattle.model.specs.Questions.{HoldingsQuestion, effective_count_q, generation_q, version_q}
use Rattle.state.specs.View.{view}
use Rattle.state.specs.Sound.{Sound}
use Rattle.boundary.specs.Told.{AmountTold, count_or, CountTold, Counts}

-- no refusal has the number 0
pub refused_not_0 : (x : Refusal) → refusal_number x ≡ 0 → ⊥
refused_not_0 Room = omega arith
refused_not_0 Kind = omega arith
refused_not_0 Index = omega arith
refused_not_0 Header = omega arith
refused_not_0 Full = omega arith
refused_not_0 Version = omega arith
refused_not_0 Loaded = omega arith
refused_not_0 Generation = omega arith
refused_not_0 Unknown = omega arith
refused_not_0 Value = omega arith
refused_not_0 Final = omega arith
refused_not_0 Stale = omega arith
refused_not_0 Short = omega arith

-- ---- counts ----

-- a question that a sound memory never refuses
module _ (q : HoldingsQuestion) (m : List ℕ) (never : Sound m → ask_holdings q (view m) ≡ 0) where
  of_answer : (a : Counted) (x : ℕ) → Asked q m (counted_number a) (counted_reply a) → Counts q m x (count_or a x) (counted_number a)
  of_answer (Count n) x k = record { refused = λ no. absurd (no refl); asked = k }
  of_answer (CountRefused y) x k =
      let not : Sound m → ⊥ = λ s. refused_not_0 y (k.number_is s ∙ never s) in
      record { refused = λ no. refl; asked = record { number_is = k.number_is; reply_is = λ s. absurd (not s) } }

  counts : {a : Counted} {x x' r : ℕ} → CountTold a x x' r → Asked q m (counted_number a) (counted_reply a) → Counts q m x x' r
  counts {a} {x} {x'} {r} t k =
      subst (λ (y : ℕ). Counts q m x y r) (sym t.told) (subst (Counts q m x (count_or a x)) (sym t.number_is) (of_answer a x k))

pub tells_generation : {m : List ℕ} {a : Counted} {x x' r : ℕ} → CountTold a x x' r → Asked generation_q m (counted_number a) (counted_reply a) → Counts generation_q m x x' r
tells_generation {m} = counts generation_q m (λ s. refl)

pub tells_version : {m : List ℕ} {a : Counted} {x x' r : ℕ} → CountTold a x x' r → Asked version_q m (counted_number a) (counted_reply a) → Counts version_q m x x' r
tells_version {m} = counts version_q m (λ s. refl)

pub tells_count : {m : List ℕ} {a : Counted} {x x' r : ℕ} → CountTold a x x' r → Asked effective_count_q m (counted_number a) (counted_reply a) → Counts effective_count_q m x x' r
tells_count {m} = counts effective_count_q m (λ s. refl)

-- ---- amounts ----

-- three words are written
module _ (m m₁ m₂ m₃ : List ℕ) (k x y : ℕ) (three : length m ≡ 3) (s₁ : Stored m m₁ 0 k) (s₂ : Stored m₁ m₂ 1 x) (s₃ : Stored m₂ m₃ 2 y) where
  pub first : word m₃ 0 ≡ k
  first = stored_other s₃ 0 (omega arith) ∙ stored_other s₂ 0 (omega arith) ∙ stored_same s₁ (omega arith)

  pub second : word m₃ 1 ≡ x
  second = let l₁ = stored_long s₁ in stored_other s₃ 1 (omega arith) ∙ stored_same s₂ (omega arith)

  pub third : word m₃ 2 ≡ y
  third = let l₁ = stored_long s₁ in let l₂ = stored_long s₂ in stored_same s₃ (omega arith)

  pub tells_readable : {a : Reading} {v : Amount} → k ≡ 1 → a ≡ Readable v → from_words x y ≡ value v → AmountTold (meant a) m₃
  tells_readable {a} {v} one e f =
      subst (λ (z : Reading). AmountTold (meant z) m₃) (sym e) (record { is = (first ∙ one, ap (λ (z : ℕ). from_words z (word m₃ 2)) second ∙ ap (from_words x) third ∙ f) })

  pub tells_unreadable : {a : Reading} → k ≡ 0 → x ≡ 0 → y ≡ 0 → a ≡ Unreadable → AmountTold (meant a) m₃
  tells_unreadable {a} k₀ x₀ y₀ e = subst (λ (z : Reading). AmountTold (meant z) m₃) (sym e) (record { is = (first ∙ k₀, second ∙ x₀, third ∙ y₀) })

pub of_reading : {a b : Meaning} {out : List ℕ} → a ≡ b → AmountTold a out → AmountTold b out
of_reading {a} {b} {out} e t = subst (λ (z : Meaning). AmountTold z out) e t
