-- What is written for a host of a comparison says what was answered inside.
use mathlib.Core.Bool.{Bool}
use mathlib.Core.List.{List}
use mathlib.Core.Path.{◌≡◌, sym, ap, ◌∙◌, subst}
use Prim.Native.Nat.{ℕ}
use native.Mathlib.Omega.{arith}
use lib.ListN.{length}
use Rattle.amount.specs.Choose.{◌if◌else◌}
use Rattle.block.specs.Answers.{choice_means, outcome_means}
use Rattle.block.specs.Records.{reason_means}
use Rattle.block.specs.Telling.{ReasonTold}
use Rattle.block.specs.Words.{quad}
use Rattle.block.specs.declared.Choice.{Choice}
use Rattle.choice.specs.Parts.{Covering}
use Rattle.memory.specs.Words.{word, seg, Stored, Four}
use Rattle.memory.proofs.WordLaws.{stored_same, stored_other, stored_long}
use Rattle.model.specs.Comparing.{Comparison, Side, choose_verified}
use Rattle.boundary.specs.Compared.{outcome_number, ChoiceTold, CoversTold}

-- ---- a choice ----

-- six words are written: two, and a group of four
module _ (m m₁ m₂ m₃ : List ℕ) (o k a b c d : ℕ) (six : length m ≡ 6) (s₁ : Stored m m₁ 0 o) (s₂ : Stored m₁ m₂ 1 k) (f : Four m₂ m₃ 2 a b c d) where
  pub choice_long : length m₃ ≡ length m
  choice_long = f.long ∙ stored_long s₂ ∙ stored_long s₁

  pub tells_choice : (x : Choice) → o ≡ outcome_number (outcome_means x.outcome) → ReasonTold (reason_means x.reason) k (quad a b c d) → ChoiceTold (choice_means x) m₃
  tells_choice x e t =
      let l₁ = stored_long s₁ in
      let kind : word m₃ 1 ≡ k = f.only 1 (omega arith) ∙ stored_same s₂ (omega arith) in
      record {
        outcome = f.only 0 (omega arith) ∙ stored_other s₂ 0 (omega arith) ∙ stored_same s₁ (omega arith) ∙ e;
        reason = subst (λ (z : ℕ). ReasonTold (reason_means x.reason) z (seg m₃ 2 4)) (sym kind) (subst (ReasonTold (reason_means x.reason) k) (sym f.is) t);
      }

pub tells_chosen : {us us' them them' : Side} {c : Comparison} {out : List ℕ} → us ≡ us' → them ≡ them' → c ≡ choose_verified us them → ChoiceTold c out → ChoiceTold (choose_verified us' them') out
tells_chosen {us} {us'} {them} {them'} {c} {out} e f g t = subst (λ (z : Comparison). ChoiceTold z out) (g ∙ ap (λ (z : Side). choose_verified z them) e ∙ ap (choose_verified us') f) t

-- ---- covering ----

pub tells_covers : (index epoch n : ℕ) {r : ℕ} {is : Bool} → r ≡ (1 if is else 0) → Covering index epoch n is → CoversTold index epoch n r
tells_covers index epoch n e k b i j = e ∙ ap (λ (z : Bool). 1 if z else 0) (k b i j)
