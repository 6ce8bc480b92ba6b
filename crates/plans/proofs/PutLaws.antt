-- An entry is put into a list of words, and the list as entries has it at its place.
use mathlib.Core.Path.{◌≡◌, refl, ap, ◌∙◌}
use mathlib.Core.List.{List}
use Prim.Native.Nat.{ℕ, zero, suc, ◌+◌, ◌*◌, ◌/◌, ◌≤◌, ◌<◌}
use native.Mathlib.Omega.{arith}
use lib.ListN.{length, set}
use Rattle.memory.specs.Words.{word, Four}
use Rattle.entries.specs.declared.Entry.{Entry}
use Rattle.plans.specs.Lent.{entry_from, tabled, places_in, entries_in, Put}

-- the words of four, one by one
module _ (l l' : List ℕ) (at a b c d : ℕ) (f : Four l l' at a b c d) where
  pub first : word l' at ≡ a
  first = ap (word l') (omega arith) ∙ ap (λ (s : ℕ → ℕ). s 0) f.is

  pub second : word l' (at + 1) ≡ b
  second = ap (λ (s : ℕ → ℕ). s 1) f.is

  pub third : word l' (at + 2) ≡ c
  third = ap (λ (s : ℕ → ℕ). s 2) f.is

  pub fourth : word l' (at + 3) ≡ d
  fourth = ap (λ (s : ℕ → ℕ). s 3) f.is

module _ (l l₁ l₂ l₃ l₄ : List ℕ) (at : ℕ) (e : Entry)
    (f₁ : Four l l₁ at e.hash1 e.hash2 e.hash3 e.hash4)
    (f₂ : Four l₁ l₂ (at + 4) e.state e.timed e.time e.why)
    (f₃ : Four l₂ l₃ (at + 8) e.why1 e.why2 e.why3 e.why4)
    (f₄ : Four l₃ l₄ (at + 12) e.rival1 e.rival2 e.rival3 e.rival4) where
  kept₁ : (i : ℕ) → i < at + 4 → word l₄ i ≡ word l₁ i
  kept₁ i h = f₄.only i (λ x y. omega arith) ∙ f₃.only i (λ x y. omega arith) ∙ f₂.only i (λ x y. omega arith)

  kept₂ : (i : ℕ) → i < at + 8 → word l₄ i ≡ word l₂ i
  kept₂ i h = f₄.only i (λ x y. omega arith) ∙ f₃.only i (λ x y. omega arith)

  kept₃ : (i : ℕ) → i < at + 12 → word l₄ i ≡ word l₃ i
  kept₃ i h = f₄.only i (λ x y. omega arith)

  -- a word of the second, third and last four, by its distance from the entry's first
  late : (i j : ℕ) (v : ℕ) → i ≡ j → word l₄ j ≡ v → word l₄ i ≡ v
  late i j v z e = rw z e

  pub put_is : Put l l₄ at e
  unfolding entry_from
  put_is =
      let h1 = kept₁ at (omega arith) ∙ first l l₁ at e.hash1 e.hash2 e.hash3 e.hash4 f₁ in
      let h2 = kept₁ (at + 1) (omega arith) ∙ second l l₁ at e.hash1 e.hash2 e.hash3 e.hash4 f₁ in
      let h3 = kept₁ (at + 2) (omega arith) ∙ third l l₁ at e.hash1 e.hash2 e.hash3 e.hash4 f₁ in
      let h4 = kept₁ (at + 3) (omega arith) ∙ fourth l l₁ at e.hash1 e.hash2 e.hash3 e.hash4 f₁ in
      let s1 = kept₂ (at + 4) (omega arith) ∙ first l₁ l₂ (at + 4) e.state e.timed e.time e.why f₂ in
      let s2 = late (at + 5) (at + 4 + 1) e.timed (omega arith) (kept₂ (at + 4 + 1) (omega arith) ∙ second l₁ l₂ (at + 4) e.state e.timed e.time e.why f₂) in
      let s3 = late (at + 6) (at + 4 + 2) e.time (omega arith) (kept₂ (at + 4 + 2) (omega arith) ∙ third l₁ l₂ (at + 4) e.state e.timed e.time e.why f₂) in
      let s4 = late (at + 7) (at + 4 + 3) e.why (omega arith) (kept₂ (at + 4 + 3) (omega arith) ∙ fourth l₁ l₂ (at + 4) e.state e.timed e.time e.why f₂) in
      let w1 = kept₃ (at + 8) (omega arith) ∙ first l₂ l₃ (at + 8) e.why1 e.why2 e.why3 e.why4 f₃ in
      let w2 = late (at + 9) (at + 8 + 1) e.why2 (omega arith) (kept₃ (at + 8 + 1) (omega arith) ∙ second l₂ l₃ (at + 8) e.why1 e.why2 e.why3 e.why4 f₃) in
      let w3 = late (at + 10) (at + 8 + 2) e.why3 (omega arith) (kept₃ (at + 8 + 2) (omega arith) ∙ third l₂ l₃ (at + 8) e.why1 e.why2 e.why3 e.why4 f₃) in
      let w4 = late (at + 11) (at + 8 + 3) e.why4 (omega arith) (kept₃ (at + 8 + 3) (omega arith) ∙ fourth l₂ l₃ (at + 8) e.why1 e.why2 e.why3 e.why4 f₃) in
      let r1 = first l₃ l₄ (at + 12) e.rival1 e.rival2 e.rival3 e.rival4 f₄ in
      let r2 = late (at + 13) (at + 12 + 1) e.rival2 (omega arith) (second l₃ l₄ (at + 12) e.rival1 e.rival2 e.rival3 e.rival4 f₄) in
      let r3 = late (at + 14) (at + 12 + 2) e.rival3 (omega arith) (third l₃ l₄ (at + 12) e.rival1 e.rival2 e.rival3 e.rival4 f₄) in
      let r4 = late (at + 15) (at + 12 + 3) e.rival4 (omega arith) (fourth l₃ l₄ (at + 12) e.rival1 e.rival2 e.rival3 e.rival4 f₄) in
      record {
        is = rw (h1, h2, h3, h4, s1, s2, s3, s4, w1, w2, w3, w4, r1, r2, r3, r4);
        only = λ i x. f₄.only i (λ y z. x (omega arith) (omega arith)) ∙ f₃.only i (λ y z. x (omega arith) (omega arith)) ∙ f₂.only i (λ y z. x (omega arith) (omega arith)) ∙ f₁.only i (λ y z. x (omega arith) (omega arith));
        long = f₄.long ∙ f₃.long ∙ f₂.long ∙ f₁.long;
      }

-- ---- the list as entries ----

tabled_same : (f g : ℕ → Entry) (k : ℕ) → ((i : ℕ) → i < k → f i ≡ g i) → tabled f k ≡ tabled g k
unfolding tabled
tabled_same f g zero s = refl
tabled_same f g (suc k) s = rw (s 0 (omega arith), tabled_same (λ i. f (suc i)) (λ i. g (suc i)) k (λ i h. s (suc i) (omega arith)))

tabled-set : (f g : ℕ → Entry) (k j : ℕ) (e : Entry) → j < k → g j ≡ e → ((i : ℕ) → i < k → (i ≡ j → ⊥) → g i ≡ f i) → tabled g k ≡ set (tabled f k) j e
unfolding tabled
tabled-set f g zero j e h z s = absurd (omega arith)
tabled-set f g (suc k) zero e h z s = rw (z, tabled_same (λ i. g (suc i)) (λ i. f (suc i)) k (λ i l. s (suc i) (omega arith) (λ w. omega arith)))
tabled-set f g (suc k) (suc j) e h z s = rw (s 0 (omega arith) (λ w. omega arith), tabled-set (λ i. f (suc i)) (λ i. g (suc i)) k j e (omega arith) z (λ i l w. s (suc i) (omega arith) (λ v. w (omega arith))))

pub tabled-length : (f : ℕ → Entry) (k : ℕ) → length (tabled f k) ≡ k
unfolding tabled
tabled-length f zero = refl
tabled-length f (suc k) = ap suc (tabled-length (λ i. f (suc i)) k)

from_same : (l l' : List ℕ) (at : ℕ) → ((i : ℕ) → at ≤ i → i < at + 16 → word l' i ≡ word l i) → entry_from l' at ≡ entry_from l at
unfolding entry_from
from_same l l' at s =
    rw (
      s at (omega arith) (omega arith),
      s (at + 1) (omega arith) (omega arith),
      s (at + 2) (omega arith) (omega arith),
      s (at + 3) (omega arith) (omega arith),
      s (at + 4) (omega arith) (omega arith),
      s (at + 5) (omega arith) (omega arith),
      s (at + 6) (omega arith) (omega arith),
      s (at + 7) (omega arith) (omega arith),
      s (at + 8) (omega arith) (omega arith),
      s (at + 9) (omega arith) (omega arith),
      s (at + 10) (omega arith) (omega arith),
      s (at + 11) (omega arith) (omega arith),
      s (at + 12) (omega arith) (omega arith),
      s (at + 13) (omega arith) (omega arith),
      s (at + 14) (omega arith) (omega arith),
      s (at + 15) (omega arith) (omega arith),
    )

pub put_set : (l l' : List ℕ) (j : ℕ) (e : Entry) → Put l l' (16 * j) e → j < places_in l → entries_in l' ≡ set (entries_in l) j e
put_set l l' j e p h =
    ap (tabled (λ i. entry_from l' (16 * i))) (ap (λ (x : ℕ). x / 16) p.long)
    ∙ tabled-set (λ i. entry_from l (16 * i)) (λ i. entry_from l' (16 * i)) (places_in l) j e h p.is (λ i k ne. from_same l l' (16 * i) (λ x y z. p.only x (λ u v. ne (omega arith))))
