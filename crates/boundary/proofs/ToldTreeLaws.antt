-- What is written for a host of a linked value and of a tip says what was answered inside.
use mathlib.Core.Bool.{Bool}
use mathlib.Core.List.{List}
use mathlib.Core.Path.{◌≡◌, refl, sym, ap, ◌∙◌, subst}
use Prim.Native.Nat.{ℕ}
use lib.ListN.{length}
use Rattle.amount.specs.Choose.{◌if◌else◌}
use Rattle.amount.specs.Value.{from_words, value}
use Rattle.amount.specs.declared.Amount.{Amount}
use Rattle.block.specs.Answers.{refusal_number}
use Rattle.block.specs.declared.Block.{Block}
use Rattle.block.specs.declared.Refusal.{Refusal}
use Rattle.block.specs.declared.Shown.TheVariants.{Block as ShownBlock, None as ShownNone}
use Rattle.block.specs.declared.Worth.{Worth}
use Rattle.block.specs.declared.Worth.TheVariants.{Linked, None as WorthNone, Refused as WorthRefused}
use Rattle.block.specs.declared.Tip.{Tip}
use Rattle.block.specs.declared.Tip.TheVariants.{Best, None as TipNone, Refused as TipRefused}
use Rattle.memory.specs.Words.{word, Stored}
use Rattle.boundary.specs.Told.{ShownTold}
use Rattle.boundary.specs.ToldTree.{WorthTold, TipTold}
use Rattle.boundary.proofs.ToldLaws.{first, second, third}

-- ---- linked values ----

-- three words are written
module _ (m m₁ m₂ m₃ : List ℕ) (k x y : ℕ) (three : length m ≡ 3) (s₁ : Stored m m₁ 0 k) (s₂ : Stored m₁ m₂ 1 x) (s₃ : Stored m₂ m₃ 2 y) where
  at_0 : word m₃ 0 ≡ k
  at_0 = first m m₁ m₂ m₃ k x y three s₁ s₂ s₃

  at_1 : word m₃ 1 ≡ x
  at_1 = second m m₁ m₂ m₃ k x y three s₁ s₂ s₃

  at_2 : word m₃ 2 ≡ y
  at_2 = third m m₁ m₂ m₃ k x y three s₁ s₂ s₃

  pub tells_linked : {a : Worth} {w : Amount} {ok : Bool} → a ≡ Linked w ok → k ≡ (2 if ok else 1) → from_words x y ≡ value w → WorthTold a m m₃ 0
  tells_linked {a} {w} {ok} e kind f =
      subst (λ (z : Worth). WorthTold z m m₃ 0) (sym e)
      (record { number_is = refl; told = record { is = (at_0 ∙ kind, ap (λ (z : ℕ). from_words z (word m₃ 2)) at_1 ∙ ap (from_words x) at_2 ∙ f) } })

  pub tells_unlinked : {a : Worth} → a ≡ WorthNone → k ≡ 0 → x ≡ 0 → y ≡ 0 → WorthTold a m m₃ 0
  tells_unlinked {a} e k₀ x₀ y₀ =
      subst (λ (z : Worth). WorthTold z m m₃ 0) (sym e) (record { number_is = refl; told = record { is = (at_0 ∙ k₀, at_1 ∙ x₀, at_2 ∙ y₀) } })

pub tells_no_worth : {a : Worth} {y : Refusal} {r : ℕ} (out : List ℕ) → a ≡ WorthRefused y → r ≡ refusal_number y → WorthTold a out out r
tells_no_worth {a} {y} {r} out e n = subst (λ (z : Worth). WorthTold z out out r) (sym e) (record { number_is = n; told = refl })

-- ---- tips ----

module _ {a : Tip} {out out' words words' : List ℕ} {r r' : ℕ} where
  pub tells_best : {b : Block} {w : Amount} {ok : Bool} → a ≡ Best b w ok → ShownTold (ShownBlock b) out out' r' → WorthTold (Linked w ok) words words' r → TipTold a out out' words words' r
  tells_best e s t =
      subst (λ (z : Tip). TipTold z out out' words words' r) (sym e) (record { block = record { number_is = t.number_is; told = s.told }; value = t })

  pub tells_no_best : a ≡ TipNone → ShownTold ShownNone out out' r' → WorthTold WorthNone words words' r → TipTold a out out' words words' r
  tells_no_best e s t =
      subst (λ (z : Tip). TipTold z out out' words words' r) (sym e) (record { block = record { number_is = t.number_is; told = s.told }; value = t })

pub tells_no_tip : {a : Tip} {y : Refusal} {r : ℕ} (out words : List ℕ) → a ≡ TipRefused y → r ≡ refusal_number y → TipTold a out out words words r
tells_no_tip {a} {y} {r} out words e n =
    subst (λ (z : Tip). TipTold z out out words words r) (sym e)
    (record { block = record { number_is = n; told = refl }; value = record { number_is = n; told = refl } })
