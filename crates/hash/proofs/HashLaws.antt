-- Laws of hashes: four words and 32 bytes as one number, and document 01's "byte order equals the Rust's text order".
use Prim.Native.Nat.{ℕ, suc, ◌+◌, ◌*◌, ◌<◌, ◌≤◌}
use mathlib.Core.Bool.{Bool, true, false, ◌&&◌, cond}
use mathlib.Core.List.{List, [], ◌∷◌, ◌++◌, append_assoc, append-nil}
use mathlib.Core.Path.{◌≡◌, refl, sym, ◌∙◌, ap}
use native.Mathlib.Omega.{arith}
use borrow.Author.Tests.{eqb-true, le-ltb}
use lib.Dec.{eqb, ltb}
use lib.ListN.{length, get_or, set, take, drop, length-append, length-drop, take-append-drop, drop_of_length-le}
use lib.Seq.{drop-cons, drop-drop, sets, sets-eq, length-take-le}
use Rattle.hash.specs.Digits.{number_after, digits, Below, before, alike, bytes_number, bytes_of}
use Rattle.hash.specs.Hashes.{limb, join}
use Rattle.hash.proofs.DigitLaws.{by_bool, no_more, shift, number_append, digits_split, digits_append, length_digits, less_after, same_after}

-- ---- four words ----

pub joined : (a b c d : ℕ) → join a b c d ≡ number_after limb 0 (a ∷ b ∷ c ∷ d ∷ [])
joined a b c d = ap (λ (z : ℕ). ((z * limb + b) * limb + c) * limb + d) (omega arith)

pub record Words (a b c d : ℕ) : Type 0 where
  pub first : a < limb
  pub second : b < limb
  pub third : c < limb
  pub fourth : d < limb

pub below : (a b c d : ℕ) → Words a b c d → Below limb (a ∷ b ∷ c ∷ d ∷ [])
below a b c d w = (w.first, (w.second, (w.third, (w.fourth, tt))))

module _ (a b c d a' b' c' d' : ℕ) (w : Words a b c d) (w' : Words a' b' c' d') where
  pub less_join : before (a ∷ b ∷ c ∷ d ∷ []) (a' ∷ b' ∷ c' ∷ d' ∷ []) ≡ ltb (join a b c d) (join a' b' c' d')
  less_join = sym (rw (joined a b c d, joined a' b' c' d') (less_after limb 0 0 (a ∷ b ∷ c ∷ d ∷ []) (a' ∷ b' ∷ c' ∷ d' ∷ []) refl (below a b c d w) (below a' b' c' d' w')))

  pub same_join : alike (a ∷ b ∷ c ∷ d ∷ []) (a' ∷ b' ∷ c' ∷ d' ∷ []) ≡ eqb (join a b c d) (join a' b' c' d')
  same_join = sym (rw (joined a b c d, joined a' b' c' d') (same_after limb 0 0 (a ∷ b ∷ c ∷ d ∷ []) (a' ∷ b' ∷ c' ∷ d' ∷ []) refl (below a b c d w) (below a' b' c' d' w')))

-- the same with what each test said
pub same_words : (a b c d a' b' c' d' : ℕ) {p q r s : Bool} → Words a b c d → Words a' b' c' d' → eqb a a' ≡ p → eqb b b' ≡ q → eqb c c' ≡ r → eqb d d' ≡ s → (p && (q && (r && (s && true)))) ≡ eqb (join a b c d) (join a' b' c' d')
same_words a b c d a' b' c' d' w w' e₁ e₂ e₃ e₄ = rw (← e₁, ← e₂, ← e₃, ← e₄) (same_join a b c d a' b' c' d' w w')

last_word : (x y : ℕ) → ltb x y ≡ before (x ∷ []) (y ∷ [])
last_word x y = no_more (ltb x y) (eqb x y)

first_word : (x y : ℕ) (xs ys : List ℕ) → cond (eqb x y) (before xs ys) (ltb x y) ≡ before (x ∷ xs) (y ∷ ys)
first_word x y xs ys =
    by_bool (eqb x y) (λ t. let e : x ≡ y = eqb-true x y t in rw (t, le-ltb x y (omega arith))) (λ t. rw t (no_more (ltb x y) false))

pub less_words : (a b c d a' b' c' d' : ℕ) {p q r : Bool} → Words a b c d → Words a' b' c' d' → eqb a a' ≡ p → eqb b b' ≡ q → eqb c c' ≡ r → cond p (cond q (cond r (ltb d d') (ltb c c')) (ltb b b')) (ltb a a') ≡ ltb (join a b c d) (join a' b' c' d')
less_words a b c d a' b' c' d' w w' e₁ e₂ e₃ =
    let l₃ = ap (λ (t : Bool). cond (eqb c c') t (ltb c c')) (last_word d d') ∙ first_word c c' (d ∷ []) (d' ∷ []) in
    let l₂ = ap (λ (t : Bool). cond (eqb b b') t (ltb b b')) l₃ ∙ first_word b b' (c ∷ d ∷ []) (c' ∷ d' ∷ []) in
    let l₁ = ap (λ (t : Bool). cond (eqb a a') t (ltb a a')) l₂ ∙ first_word a a' (b ∷ c ∷ d ∷ []) (b' ∷ c' ∷ d' ∷ []) in
    rw (← e₁, ← e₂, ← e₃) (l₁ ∙ less_join a b c d a' b' c' d' w w')

-- ---- 32 bytes ----

-- eight bytes are a word
eight : (n : ℕ) (xs : List ℕ) → 8 ≤ length xs → number_after 256 n xs ≡ number_after 256 (n * limb + bytes_number (take 8 xs)) (drop 8 xs)
eight n xs h =
    ap (number_after 256 n) (sym (take-append-drop 8 xs)) ∙ number_append 256 n (take 8 xs) (drop 8 xs) ∙ ap (λ (z : ℕ). number_after 256 z (drop 8 xs)) (shift 256 n (take 8 xs) ∙ rw (length-take-le 8 xs h))

eight_at : (n k : ℕ) (xs : List ℕ) → k + 8 ≤ length xs → number_after 256 n (drop k xs) ≡ number_after 256 (n * limb + bytes_number (take 8 (drop k xs))) (drop (k + 8) xs)
eight_at n k xs h =
    eight n (drop k xs) (simp length-drop (omega arith)) ∙ ap (number_after 256 (n * limb + bytes_number (take 8 (drop k xs)))) (drop-drop 8 k xs)

pub from_words_lem : (xs : List ℕ) → length xs ≡ 32 → join (bytes_number (take 8 (drop 0 xs))) (bytes_number (take 8 (drop 8 xs))) (bytes_number (take 8 (drop 16 xs))) (bytes_number (take 8 (drop 24 xs))) ≡ bytes_number xs
from_words_lem xs h =
    let a = bytes_number (take 8 (drop 0 xs)) in
    let b = bytes_number (take 8 (drop 8 xs)) in
    let c = bytes_number (take 8 (drop 16 xs)) in
    let d = bytes_number (take 8 (drop 24 xs)) in
    let end : drop 32 xs ≡ [] = drop_of_length-le xs {i = 32} (omega arith) in
    joined a b c d ∙ sym (eight_at 0 0 xs (omega arith) ∙ eight_at (0 * limb + a) 8 xs (omega arith) ∙ eight_at ((0 * limb + a) * limb + b) 16 xs (omega arith) ∙ eight_at (((0 * limb + a) * limb + b) * limb + c) 24 xs (omega arith) ∙ ap (number_after 256 ((((0 * limb + a) * limb + b) * limb + c) * limb + d)) end)

start : (xs : List ℕ) (at k : ℕ) → at < length xs → take (suc k) (drop at xs) ≡ get_or xs at 0 ∷ take k (drop (at + 1) xs)
start xs at k h = let e : suc at ≡ at + 1 = omega arith in rw (drop-cons xs at 0 h, e)

next : (xs : List ℕ) (at k j : ℕ) → at + j < length xs → take (suc k) (drop (at + j) xs) ≡ get_or xs (at + j) 0 ∷ take k (drop (at + (j + 1)) xs)
next xs at k j h = let e : suc (at + j) ≡ at + (j + 1) = omega arith in rw (drop-cons xs (at + j) 0 h, e)

pub window : (xs : List ℕ) (at : ℕ) → at + 8 ≤ length xs → get_or xs at 0 ∷ get_or xs (at + 1) 0 ∷ get_or xs (at + 2) 0 ∷ get_or xs (at + 3) 0 ∷ get_or xs (at + 4) 0 ∷ get_or xs (at + 5) 0 ∷ get_or xs (at + 6) 0 ∷ get_or xs (at + 7) 0 ∷ [] ≡ take 8 (drop at xs)
window xs at h =
    rw (start xs at 7 (omega arith), next xs at 6 1 (omega arith), next xs at 5 2 (omega arith), next xs at 4 3 (omega arith), next xs at 3 4 (omega arith), next xs at 2 5 (omega arith), next xs at 1 6 (omega arith), next xs at 0 7 (omega arith))

-- eight stores, one after the other
pub stores : (xs : List ℕ) (at a b c d e f g h : ℕ) → set (set (set (set (set (set (set (set xs at a) (at + 1) b) (at + 2) c) (at + 3) d) (at + 4) e) (at + 5) f) (at + 6) g) (at + 7) h ≡ sets xs at (a ∷ b ∷ c ∷ d ∷ e ∷ f ∷ g ∷ h ∷ [])
stores xs at a b c d e f g h =
    let p₁ : at + 1 ≡ suc at = omega arith in
    let p₂ : at + 2 ≡ suc (suc at) = omega arith in
    let p₃ : at + 3 ≡ suc (suc (suc at)) = omega arith in
    let p₄ : at + 4 ≡ suc (suc (suc (suc at))) = omega arith in
    let p₅ : at + 5 ≡ suc (suc (suc (suc (suc at)))) = omega arith in
    let p₆ : at + 6 ≡ suc (suc (suc (suc (suc (suc at))))) = omega arith in
    let p₇ : at + 7 ≡ suc (suc (suc (suc (suc (suc (suc at)))))) = omega arith in
    rw (p₁, p₂, p₃, p₄, p₅, p₆, p₇)

onto : (n : ℕ) (ds : List ℕ) → digits 256 8 n ds ≡ digits 256 8 n [] ++ ds
onto n ds = digits_append 256 8 n [] ds

-- the bytes of four words, in order
abbrev pub words : ℕ → ℕ → ℕ → ℕ → List ℕ
words a b c d = ((digits 256 8 a [] ++ digits 256 8 b []) ++ digits 256 8 c []) ++ digits 256 8 d []

pub words_bytes : (a b c d : ℕ) → Words a b c d → bytes_of (join a b c d) ≡ words a b c d
unfolding bytes_of
words_bytes a b c d w =
    digits_split 256 8 24 ((a * limb + b) * limb + c) d [] (omega arith) w.fourth ∙
    digits_split 256 8 16 (a * limb + b) c (digits 256 8 d []) (omega arith) w.third ∙
    digits_split 256 8 8 a b (digits 256 8 c (digits 256 8 d [])) (omega arith) w.second ∙
    (onto a (digits 256 8 b (digits 256 8 c D)) ∙ ap (λ (l : List ℕ). digits 256 8 a [] ++ l) (onto b (digits 256 8 c D) ∙ ap (λ (l : List ℕ). digits 256 8 b [] ++ l) (onto c D)) ∙ simp append_assoc)
  where
    D : List ℕ
    D = digits 256 8 d []

-- one row put after another is both put at once
pub sets_append : (xs ys l : List ℕ) (at : ℕ) → sets l at (xs ++ ys) ≡ sets (sets l at xs) (at + length xs) ys
sets_append [] ys l at = ap (λ (i : ℕ). sets l i ys) (omega arith)
sets_append (x ∷ xs) ys l at = sets_append xs ys (set l at x) (suc at) ∙ ap (λ (i : ℕ). sets (sets (set l at x) (suc at) xs) i ys) (omega arith)

-- what four words leave that are put one after the other
pub put_four : (a b c d at : ℕ) (xs : List ℕ) → sets (sets (sets (sets xs at (digits 256 8 a [])) (at + 8) (digits 256 8 b [])) (at + 16) (digits 256 8 c [])) (at + 24) (digits 256 8 d []) ≡ sets xs at (words a b c d)
put_four a b c d at xs =
    let A = digits 256 8 a [] in
    let B = digits 256 8 b [] in
    let C = digits 256 8 c [] in
    let D = digits 256 8 d [] in
    let l_a : length A ≡ 8 = length_digits 256 8 a [] in
    let l_b : length B ≡ 8 = length_digits 256 8 b [] in
    let l_c : length C ≡ 8 = length_digits 256 8 c [] in
    let e₁ : length (A ++ B) ≡ 16 = simp length-append (omega arith) in
    let e₂ : length ((A ++ B) ++ C) ≡ 24 = simp length-append (omega arith) in
    sym (sets_append ((A ++ B) ++ C) D xs at ∙ rw (e₂, sets_append (A ++ B) C xs at, e₁, sets_append A B xs at, l_a))

pub bytes_long : (n : ℕ) → length (bytes_of n) ≡ 32
unfolding bytes_of
bytes_long n = length_digits 256 32 n []

-- a row put over all of a list
pub put_whole : (xs vs : List ℕ) → length xs ≡ length vs → sets xs 0 vs ≡ vs
put_whole xs vs h =
    let end : drop (0 + length vs) xs ≡ [] = drop_of_length-le xs {i = 0 + length vs} (omega arith) in
    sets-eq vs xs 0 (omega arith) ∙ rw end (append-nil vs)
