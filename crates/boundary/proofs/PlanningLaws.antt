-- A plan's answer as words, and a plan over the boundary.
use mathlib.Core.Path.{◌≡◌, refl, sym, subst}
use mathlib.Core.List.{List}
use Prim.Native.Nat.{ℕ}
use lib.IntN.{ℤ}
use lib.ListN.{length, set, take}
use Rattle.model.specs.Plans.{PlanCall}
use Rattle.block.specs.Records.{reason_means}
use Rattle.block.specs.declared.Planned.{Planned}
use Rattle.block.specs.declared.Planned.TheVariants.{Scan, Apply}
use Rattle.entries.specs.declared.Entry.{Entry}
use Rattle.entries.specs.Handing.{meanings, AllPlain, HandsOut}
use Rattle.plans.specs.declared.Begun.{Begun}
use Rattle.plans.specs.declared.Begun.TheVariants.{Answered, Writes}
use Rattle.plans.specs.Opened.{Opens, room_in, reason_in, planned_of}
use Rattle.boundary.specs.Planning.{PlanTold, EntryPlans}

pub tells_scan : {a : Planned} (out : List ℕ) → a ≡ Scan → PlanTold a out (set (set (set out 0 0) 1 0) 2 0) 0
tells_scan {a} out e = subst (λ (z : Planned). PlanTold z out (set (set (set out 0 0) 1 0) 2 0) 0) (sym e) (record { number_is = refl; told = refl })

pub tells_apply : {a : Planned} {changed n : ℕ} (out : List ℕ) → a ≡ Apply changed n → PlanTold a out (set (set (set out 0 1) 1 changed) 2 n) 0
tells_apply {a} {changed} {n} out e = subst (λ (z : Planned). PlanTold z out (set (set (set out 0 1) 1 changed) 2 n) 0) (sym e) (record { number_is = refl; told = refl })

-- ---- a plan, its entries in a list of them ----

module _ (c : ℤ → PlanCall) (places : ℕ) (clock : ℤ) (m m₁ : List ℕ) (list : List Entry) (out out' : List ℕ) (r : ℕ) where
  pub plans_none : (b : Begun) → Opens c places m m₁ b → room_in b ≡ 0 → (k : ℕ) → PlanTold (planned_of b k) out out' r → EntryPlans (c clock) m m₁ list list out out' r
  plans_none b o z k t = record {
    answer = planned_of b k;
    number_is = t.number_is;
    told = t.told;
    replies = o.answered z clock (meanings list) k;
    refused = λ _. refl;
    long = refl;
    rest = refl;
    plain = subst (λ (j : ℕ). AllPlain (take j list)) (sym (o.none z k)) tt;
  }

  pub plans_some : (b : Begun) → Opens c places m m₁ b → (room_in b ≡ 0 → ⊥) → length list ≡ places → (m₂ : List ℕ) (list' : List Entry) (k : ℕ) → HandsOut m₁ m₂ (room_in b) clock (reason_means (reason_in b)) list list' k
      → PlanTold (planned_of b k) out out' r → EntryPlans (c clock) m m₂ list list' out out' r
  plans_some (Answered x) o ne e m₂ list' k h t = absurd (ne refl)
  plans_some (Writes n changed reason) o ne e m₂ list' k h t = record {
    answer = Apply changed k;
    number_is = t.number_is;
    told = t.told;
    replies = o.writes ne clock m₂ list list' k e h;
    refused = λ no. absurd (no t.number_is);
    long = h.long;
    rest = h.rest;
    plain = h.plain;
  }
