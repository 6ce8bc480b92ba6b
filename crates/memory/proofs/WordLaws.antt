-- Laws of words: what a store leaves, frames, and groups of four.
use mathlib.Core.Path.{◌≡◌, refl, ap, ◌∙◌, fun_ext}
use mathlib.Core.Bool.{Bool, true, false}
use mathlib.Core.List.{List}
use Prim.Native.Nat.{ℕ, zero, suc, ◌+◌, ◌≤◌, ◌<◌}
use native.Mathlib.Omega.{arith}
use lib.ListN.{length, length-set}
use lib.Seq.{get_or-set_same, get_or-set_other}
use lib.Dec.{ltb}
use borrow.Author.Tests.{ne_eqb, ltb-true, le-ltb}
use Rattle.amount.specs.Choose.{◌if◌else◌}
use Rattle.memory.specs.Words.{word, Stored, Only, seg, Four}
use Rattle.block.specs.Words.{quad}

-- ---- one store ----

pub stored_same : {m m' : List ℕ} {a v : ℕ} → Stored m m' a v → a < length m → word m' a ≡ v
stored_same {m} {m'} {a} {v} s h = ap (λ (z : List ℕ). word z a) s.now_is ∙ get_or-set_same m a v 0 h

pub stored_other : {m m' : List ℕ} {a v : ℕ} → Stored m m' a v → (i : ℕ) → (i ≡ a → ⊥) → word m' i ≡ word m i
stored_other {m} {m'} {a} {v} s i h = ap (λ (z : List ℕ). word z i) s.now_is ∙ get_or-set_other m a i v 0 h

pub stored_long : {m m' : List ℕ} {a v : ℕ} → Stored m m' a v → length m' ≡ length m
stored_long {m} {m'} {a} {v} s = ap length s.now_is ∙ length-set m a v

-- ---- frames ----

-- the one frame law: a group whose words are the same is the same
pub seg_same : (m m' : List ℕ) (at len : ℕ) → ((i : ℕ) → i < len → word m' (at + i) ≡ word m (at + i)) → seg m' at len ≡ seg m at len
seg_same m m' at len h = fun_ext (λ i. go i (ltb i len) refl)
  where
    go : (i : ℕ) (t : Bool) → ltb i len ≡ t → (word m' (at + i) if t else 0) ≡ (word m (at + i) if t else 0)
    go i true e = h i (ltb-true i len e)
    go i false e = refl

-- what changed lies in a part, so in a larger part; one change after another
pub only_in : (m m' : List ℕ) (lo hi lo' hi' : ℕ) → lo' ≤ lo → hi ≤ hi' → Only m m' lo hi → Only m m' lo' hi'
only_in m m' lo hi lo' hi' a b o i h = o i (λ x y. h (omega arith) (omega arith))

pub only_then : (m m' m'' : List ℕ) (lo hi : ℕ) → Only m m' lo hi → Only m' m'' lo hi → Only m m'' lo hi
only_then m m' m'' lo hi o o' i h = o' i h ∙ o i h

-- a group of four by its words
pub seg-quad : (m : List ℕ) (at a b c d : ℕ) → word m at ≡ a → word m (at + 1) ≡ b → word m (at + 2) ≡ c → word m (at + 3) ≡ d → seg m at 4 ≡ quad a b c d
seg-quad m at a b c d e₀ e₁ e₂ e₃ = fun_ext go
  where
    past : (i : ℕ) → 4 ≤ i → seg m at 4 i ≡ quad a b c d i
    past i h = rw (le-ltb i 4 h, ne_eqb i 0 (omega arith), ne_eqb i 1 (omega arith), ne_eqb i 2 (omega arith), ne_eqb i 3 (omega arith))

    go : (i : ℕ) → seg m at 4 i ≡ quad a b c d i
    go zero = ap (word m) (omega arith) ∙ e₀
    go (suc zero) = e₁
    go (suc (suc zero)) = e₂
    go (suc (suc (suc zero))) = e₃
    go (suc (suc (suc (suc i)))) = past (suc (suc (suc (suc i)))) (omega arith)

module _ (m m₁ m₂ m₃ m₄ : List ℕ) (at a b c d : ℕ) (fits : at + 4 ≤ length m)
    (s₁ : Stored m m₁ at a) (s₂ : Stored m₁ m₂ (at + 1) b) (s₃ : Stored m₂ m₃ (at + 2) c) (s₄ : Stored m₃ m₄ (at + 3) d) where
  pub four_done : Four m m₄ at a b c d
  four_done =
      let l₁ = stored_long s₁ in
      let l₂ = stored_long s₂ in
      let l₃ = stored_long s₃ in
      record {
        is = seg-quad m₄ at a b c d
            (stored_other s₄ at (omega arith) ∙ stored_other s₃ at (omega arith) ∙ stored_other s₂ at (omega arith) ∙ stored_same s₁ (omega arith))
            (stored_other s₄ (at + 1) (omega arith) ∙ stored_other s₃ (at + 1) (omega arith) ∙ stored_same s₂ (omega arith))
            (stored_other s₄ (at + 2) (omega arith) ∙ stored_same s₃ (omega arith))
            (stored_same s₄ (omega arith));
        only = λ i h.
            stored_other s₄ i (λ e. h (omega arith) (omega arith)) ∙ stored_other s₃ i (λ e. h (omega arith) (omega arith))
            ∙ stored_other s₂ i (λ e. h (omega arith) (omega arith)) ∙ stored_other s₁ i (λ e. h (omega arith) (omega arith));
        long = stored_long s₄ ∙ l₃ ∙ l₂ ∙ l₁;
      }
