-- Laws of rows: what four words at a time read as, and which copy is effective.
use mathlib.Core.Path.{◌≡◌, refl, ap, ◌∙◌}
use mathlib.Core.Bool.{false}
use mathlib.Core.List.{List}
use mathlib.Core.Option.{none, some}
use Prim.Native.Nat.{ℕ, ◌+◌, ◌≤◌, ◌<◌}
use native.Mathlib.Omega.{arith}
use lib.ListN.{length}
use lib.Dec.{eqb}
use borrow.Author.Tests.{ne_eqb}
use Rattle.model.specs.Record as model
use Rattle.model.specs.Holding.{effective}
use Rattle.block.specs.Records.{header_means, copy_means}
use Rattle.block.specs.Telling.{HeaderTold, CopyTold}
use Rattle.block.specs.Words.{quad, group, header_of, copy_of}
use Rattle.block.specs.Writing.{HeaderIs, CopyIs}
use Rattle.block.specs.declared.Header.{Header}
use Rattle.block.specs.declared.Copy.{Copy}
use Rattle.block.specs.declared.Quad.{Quad}
use Rattle.block.proofs.TellingLaws.{tells_header, tells_copy}
use Rattle.block.proofs.WordLaws.{header_read, copy_read}
use Rattle.memory.specs.Words.{word, Stored, seg, Four}
use Rattle.memory.proofs.WordLaws.{stored_same, stored_other, stored_long, seg_same}
use Rattle.rows.specs.Rows.{header_at, copy_at}
use Rattle.rows.specs.Written.{Headed, Copied, Dropped, Opened, Stands}

-- a group of four that later writes pass by
kept : (m m' : List ℕ) (at a b c d : ℕ) → seg m at 4 ≡ quad a b c d → ((i : ℕ) → i < 4 → word m' (at + i) ≡ word m (at + i)) → seg m' at 4 ≡ quad a b c d
kept m m' at a b c d e h = seg_same m m' at 4 h ∙ e

-- ---- writing ----

pub header_groups : {h h' v v' i i' w w' : ℕ → ℕ} → h' ≡ h → v' ≡ v → i' ≡ i → w' ≡ w → header_of h' v' i' w' ≡ header_of h v i w
header_groups e₀ e₁ e₂ e₃ = rw (e₀, e₁, e₂, e₃)

pub copy_groups : {s s' r r' h h' : ℕ → ℕ} → s' ≡ s → r' ≡ r → h' ≡ h → copy_of s' r' h' ≡ copy_of s r h
copy_groups e₀ e₁ e₂ = rw (e₀, e₁, e₂)

header_told : (x : Header) {h h' v v' i i' w w' : ℕ → ℕ} → h' ≡ h → v' ≡ v → i' ≡ i → w' ≡ w → HeaderIs x h v i w → HeaderTold (header_means x) h' v' i' w'
header_told x {h} {h'} {v} {v'} {i} {i'} {w} {w'} e₀ e₁ e₂ e₃ is = rw (e₀, e₁, e₂, e₃) (tells_header x h v i w is)

copy_told : (x : Copy) {s s' r r' h h' : ℕ → ℕ} → s' ≡ s → r' ≡ r → h' ≡ h → CopyIs x s r h → CopyTold (copy_means x) s' r' h'
copy_told x {s} {s'} {r} {r'} {h} {h'} e₀ e₁ e₂ is = rw (e₀, e₁, e₂) (tells_copy x s r h is)

module _ (m m₁ m₂ m₃ m₄ : List ℕ) (at : ℕ) (x : Header) (h v i w : Quad) (told : HeaderIs x (group h) (group v) (group i) (group w))
    (f₁ : Four m m₁ at h.a h.b h.c h.d) (f₂ : Four m₁ m₂ (at + 4) v.a v.b v.c v.d)
    (f₃ : Four m₂ m₃ (at + 8) i.a i.b i.c i.d) (f₄ : Four m₃ m₄ (at + 12) w.a w.b w.c w.d) where
  pub header_done : Headed m m₄ at x
  unfolding header_at
  header_done =
      let e₀ = kept m₁ m₄ at _ _ _ _ f₁.is (λ k l. f₄.only (at + k) (omega arith) ∙ f₃.only (at + k) (omega arith) ∙ f₂.only (at + k) (omega arith)) in
      let e₁ = kept m₂ m₄ (at + 4) _ _ _ _ f₂.is (λ k l. f₄.only (at + 4 + k) (omega arith) ∙ f₃.only (at + 4 + k) (omega arith)) in
      let e₂ = kept m₃ m₄ (at + 8) _ _ _ _ f₃.is (λ k l. f₄.only (at + 8 + k) (omega arith)) in
      record {
        is = header_groups e₀ e₁ e₂ f₄.is ∙ header_read x (group h) (group v) (group i) (group w) told;
        told = header_told x e₀ e₁ e₂ f₄.is told;
        only = λ k l.
            f₄.only k (λ y z. l (omega arith) (omega arith)) ∙ f₃.only k (λ y z. l (omega arith) (omega arith))
            ∙ f₂.only k (λ y z. l (omega arith) (omega arith)) ∙ f₁.only k (λ y z. l (omega arith) (omega arith));
        long = f₄.long ∙ f₃.long ∙ f₂.long ∙ f₁.long;
      }

module _ (m m₁ m₂ m₃ : List ℕ) (at : ℕ) (x : Copy) (s r h : Quad) (told : CopyIs x (group s) (group r) (group h))
    (f₁ : Four m m₁ at s.a s.b s.c s.d) (f₂ : Four m₁ m₂ (at + 4) r.a r.b r.c r.d)
    (f₃ : Four m₂ m₃ (at + 8) h.a h.b h.c h.d) where
  pub copy_done : Copied m m₃ at x
  unfolding copy_at
  copy_done =
      let e₀ = kept m₁ m₃ at _ _ _ _ f₁.is (λ k l. f₃.only (at + k) (omega arith) ∙ f₂.only (at + k) (omega arith)) in
      let e₁ = kept m₂ m₃ (at + 4) _ _ _ _ f₂.is (λ k l. f₃.only (at + 4 + k) (omega arith)) in
      record {
        is = copy_groups e₀ e₁ f₃.is ∙ copy_read x (group s) (group r) (group h) told;
        told = copy_told x e₀ e₁ f₃.is told;
        only = λ k l.
            f₃.only k (λ y z. l (omega arith) (omega arith)) ∙ f₂.only k (λ y z. l (omega arith) (omega arith)) ∙ f₁.only k (λ y z. l (omega arith) (omega arith));
        long = f₃.long ∙ f₂.long ∙ f₁.long;
      }

-- ---- no copy ----

pub copy_none : (m : List ℕ) (at : ℕ) → word m at ≡ 0 → copy_at m at ≡ none
unfolding copy_at copy_of
copy_none m at e = let z : word m (at + 0) ≡ 0 = ap (word m) (omega arith) ∙ e in rw z

pub copy_some : (m : List ℕ) (at : ℕ) → (word m at ≡ 0 → ⊥) → (k : model.Copy) × (copy_at m at ≡ some k)
unfolding copy_at copy_of
copy_some m at ne = let z : eqb (word m (at + 0)) 0 ≡ false = ap (λ (y : ℕ). eqb (word m y) 0) (omega arith) ∙ ne_eqb (word m at) 0 ne in rw z (_, refl)

pub drop_done : (m m' : List ℕ) (at : ℕ) → at < length m → Stored m m' at 0 → Dropped m m' at
drop_done m m' at l s = record { is = copy_none m' at (stored_same s l); only = λ k h. stored_other s k (λ e. h (omega arith) (omega arith)); long = stored_long s }

module _ (m m₁ m₂ m₃ m₄ m₅ : List ℕ) (at : ℕ) (fits : at + 68 ≤ length m)
    (s₁ : Stored m m₁ at 1) (s₂ : Stored m₁ m₂ (at + 1) 1) (s₃ : Stored m₂ m₃ (at + 20) 0) (s₄ : Stored m₃ m₄ (at + 32) 0) (s₅ : Stored m₄ m₅ (at + 44) 0) where
  pub open_done : Opened m m₅ at
  open_done =
      let l₁ = stored_long s₁ in
      let l₂ = stored_long s₂ in
      let l₃ = stored_long s₃ in
      let l₄ = stored_long s₄ in
      record {
        used = stored_other s₅ at (omega arith) ∙ stored_other s₄ at (omega arith) ∙ stored_other s₃ at (omega arith) ∙ stored_other s₂ at (omega arith) ∙ stored_same s₁ (omega arith);
        answer = stored_other s₅ (at + 1) (omega arith) ∙ stored_other s₄ (at + 1) (omega arith) ∙ stored_other s₃ (at + 1) (omega arith) ∙ stored_same s₂ (omega arith);
        active = copy_none m₅ (at + 20) (stored_other s₅ (at + 20) (omega arith) ∙ stored_other s₄ (at + 20) (omega arith) ∙ stored_same s₃ (omega arith));
        forks = copy_none m₅ (at + 32) (stored_other s₅ (at + 32) (omega arith) ∙ stored_same s₄ (omega arith));
        canon = copy_none m₅ (at + 44) (stored_same s₅ (omega arith));
        only = λ a x₀ x₁ x₂ x₃ x₄. stored_other s₅ a x₄ ∙ stored_other s₄ a x₃ ∙ stored_other s₃ a x₂ ∙ stored_other s₂ a x₁ ∙ stored_other s₁ a x₀;
        long = stored_long s₅ ∙ l₄ ∙ l₃ ∙ l₂ ∙ l₁;
      }

-- ---- the effective copy ----

module _ (m : List ℕ) (at : ℕ) where
  pub effective_active : (word m (at + 20) ≡ 0 → ⊥) → Stands m at (at + 20)
  unfolding effective
  effective_active a = let c = copy_some m (at + 20) a in record { is = rw c.1; fits = omega arith }

  pub effective_forks : word m (at + 20) ≡ 0 → (word m (at + 32) ≡ 0 → ⊥) → Stands m at (at + 32)
  unfolding effective
  effective_forks a b = let c = copy_some m (at + 32) b in record { is = rw (copy_none m (at + 20) a, c.1); fits = omega arith }

  pub effective_canon : word m (at + 20) ≡ 0 → word m (at + 32) ≡ 0 → Stands m at (at + 44)
  unfolding effective
  effective_canon a b = record { is = rw (copy_none m (at + 20) a, copy_none m (at + 32) b); fits = omega arith }
