-- What is told leaves no slack (document 01, "Promises that leave no slack"): the words that tell a reason, a copy, a header, a block shown, an entry are the only ones. (A word is
-- below 2^64 by its type.)
--     shown-once     29 words that tell a block are the only 29
--     entry-once     an entry that is plain is the only one of its meaning; entries-once, a list of them
--     value-once     three words that tell a linked value are the only three; amount-once, an amount
use mathlib.Core.List.{List, [], ◌∷◌}
use mathlib.Core.Option.{Option, none, some}
use mathlib.Core.Path.{◌≡◌, refl, sym, ap, subst, ◌∙◌}
use Prim.Native.Nat.{ℕ, zero, suc, ◌+◌, ◌-◌, ◌<◌}
use native.Mathlib.Omega.{arith}
use lib.Dec.{eqb, ltb}
use lib.IntN.{ℤ, pos, negsuc}
use lib.ListN.{length}
use lib.Seq.{ext_get_or}
use borrow.Author.Tests.{eqb-true, eq-eqb, ltb-true, ltb-false}
use Rattle.amount.proofs.Promises.{words_same}
use Rattle.amount.specs.Amounts.{Amount, readable, unreadable}
use Rattle.block.specs.Telling.{AmountIs, TimeTold, NumbersIn, WhyTold, RivalTold, CopyTold, HeaderTold}
use Rattle.block.specs.Words.{quad, hash_of}
use Rattle.block.specs.Writing.{Four, Two, One, SignedIs}
use Rattle.entries.specs.declared.Entry.{Entry}
use Rattle.entries.specs.Entries.{entry_means, EntryTold, Plain}
use Rattle.entries.specs.Handing.{meanings, AllPlain}
use Rattle.hash.proofs.HashLaws.{Words, same_words}
use Rattle.hash.specs.Hashes.{limb}
use Rattle.memory.specs.Words.{word, seg}
use Rattle.model.proofs.Tools.{by_bool, and_left, and_right}
use Rattle.model.specs.Record.{Header, Reason, same_tip, neither, peer_only, local_only, peer_work, local_work, peer_tip, local_tip, peer_hash, local_hash, off_spine, competing_fork, stale_fork, Copy, Block}
use Rattle.model.specs.Standing.{Value, unlinked, linked}
use Rattle.model.specs.Writes as model
use Rattle.boundary.specs.Told.{BlockTold}
use Rattle.boundary.specs.ToldTree.{ValueIs}

-- ---- four words, each below 2^64 ----

abbrev pub Group : (ℕ → ℕ) → Type 0
Group g = Words (g 0) (g 1) (g 2) (g 3)

abbrev pub Same : (ℕ → ℕ) → (ℕ → ℕ) → Type 0
Same g g' = Four g (g' 0) (g' 1) (g' 2) (g' 3)

module _ (g g' : ℕ → ℕ) (w : Group g) (w' : Group g') where
  four_once : {a b c d : ℕ} → Four g a b c d → Four g' a b c d → Same g g'
  four_once f f' =
      record { first = f.first ∙ sym f'.first; second = f.second ∙ sym f'.second; third = f.third ∙ sym f'.third; fourth = f.fourth ∙ sym f'.fourth }

  one_once : {x : ℕ} → One g x → One g' x → Same g g'
  one_once f f' =
      let e = words_same (g 0) (g 1) (g' 0) (g' 1) w.first w'.first (f.first ∙ sym f'.first) in
      record { first = e.0; second = e.1; third = f.third ∙ sym f'.third; fourth = f.fourth ∙ sym f'.fourth }

  two_once : {x y : ℕ} → Two g x y → Two g' x y → Same g g'
  two_once f f' =
      let e = words_same (g 0) (g 1) (g' 0) (g' 1) w.first w'.first (f.first ∙ sym f'.first) in
      let d = words_same (g 2) (g 3) (g' 2) (g' 3) w.third w'.third (f.second ∙ sym f'.second) in
      record { first = e.0; second = e.1; third = d.0; fourth = d.1 }

  hash_once : hash_of g ≡ hash_of g' → Same g g'
  hash_once e =
      let all = same_words (g 0) (g 1) (g 2) (g 3) (g' 0) (g' 1) (g' 2) (g' 3) w w' refl refl refl refl ∙ eq-eqb (hash_of g) (hash_of g') e in
      let t₁ = and_right (eqb (g 0) (g' 0)) _ all in
      let t₂ = and_right (eqb (g 1) (g' 1)) _ t₁ in
      let t₃ = and_right (eqb (g 2) (g' 2)) _ t₂ in
      record {
        first = eqb-true (g 0) (g' 0) (and_left _ _ all);
        second = eqb-true (g 1) (g' 1) (and_left _ _ t₁);
        third = eqb-true (g 2) (g' 2) (and_left _ _ t₂);
        fourth = eqb-true (g 3) (g' 3) (and_left _ _ t₃);
      }

  -- ---- a reason, a competing hash ----

  pub numbers_once : (x : Reason) → NumbersIn x g → NumbersIn x g' → Same g g'
  numbers_once (same_tip h) f f' = hash_once (f ∙ sym f')
  numbers_once neither f f' = four_once f f'
  numbers_once (peer_only v) f f' = one_once f f'
  numbers_once (local_only v) f f' = one_once f f'
  numbers_once (peer_work v u) f f' = two_once f f'
  numbers_once (local_work v u) f f' = two_once f f'
  numbers_once (peer_tip i j) f f' = four_once f f'
  numbers_once (local_tip i j) f f' = four_once f f'
  numbers_once peer_hash f f' = four_once f f'
  numbers_once local_hash f f' = four_once f f'
  numbers_once off_spine f f' = four_once f f'
  numbers_once competing_fork f f' = four_once f f'
  numbers_once stale_fork f f' = four_once f f'

  why_once : (x : Option Reason) (k k' : ℕ) → WhyTold x k g → WhyTold x k' g' → (k ≡ k') × Same g g'
  why_once none k k' f f' = (f.0 ∙ sym f'.0, four_once f.1 f'.1)
  why_once (some x) k k' f f' = (f.kind_is ∙ sym f'.kind_is, numbers_once x f.numbers f'.numbers)

  rival_once : (x : Option ℕ) → RivalTold x g → RivalTold x g' → Same g g'
  rival_once none f f' = four_once f f'
  rival_once (some h) f f' = hash_once (f ∙ sym f')

-- ---- a time, an amount ----

signed_once : (z : ℤ) (k n k' n' : ℕ) → SignedIs z k n → SignedIs z k' n' → (k ≡ k') × (n ≡ n')
signed_once (pos m) k n k' n' f f' = (f.kind_is ∙ sym f'.kind_is, f.word_is ∙ sym f'.word_is)
signed_once (negsuc m) k n k' n' f f' = (f.kind_is ∙ sym f'.kind_is, f.word_is ∙ sym f'.word_is)

time_once : (t : Option ℤ) (k n k' n' : ℕ) → TimeTold t k n → TimeTold t k' n' → (k ≡ k') × (n ≡ n')
time_once none k n k' n' f f' = (f.kind_is ∙ sym f'.kind_is, f.word_is ∙ sym f'.word_is)
time_once (some z) k n k' n' f f' = signed_once z k n k' n' f f'

pub amount_once : (a : Amount) (k x y k' x' y' : ℕ) → x < limb → x' < limb → AmountIs a k x y → AmountIs a k' x' y' → (k ≡ k') × (x ≡ x') × (y ≡ y')
amount_once (readable v) k x y k' x' y' l l' f f' = let e = words_same x y x' y' l l' (f.1 ∙ sym f'.1) in (f.0 ∙ sym f'.0, e.0, e.1)
amount_once unreadable k x y k' x' y' l l' f f' = (f.0 ∙ sym f'.0, f.1 ∙ sym f'.1, f.2 ∙ sym f'.2)

-- ---- a linked value ----

pub value_once : (v : Value) (k x y k' x' y' : ℕ) → x < limb → x' < limb → ValueIs v k x y → ValueIs v k' x' y' → (k ≡ k') × (x ≡ x') × (y ≡ y')
value_once unlinked k x y k' x' y' l l' f f' = (f.0 ∙ sym f'.0, f.1 ∙ sym f'.1, f.2 ∙ sym f'.2)
value_once (linked w ok) k x y k' x' y' l l' f f' = let e = words_same x y x' y' l l' (f.1 ∙ sym f'.1) in (f.0 ∙ sym f'.0, e.0, e.1)

-- ---- a copy, a header ----

record SameCopy (s s' r r' h h' : ℕ → ℕ) : Type 0 where
  state : Same s s'
  reason : Same r r'
  rival : Same h h'

module _ (c : Copy) (s s' r r' h h' : ℕ → ℕ) (wr : Group r) (wr' : Group r') (wh : Group h) (wh' : Group h') where
  copy_once : CopyTold c s r h → CopyTold c s' r' h' → SameCopy s s' r r' h h'
  copy_once t t' =
      let x = time_once c.time (s 1) (s 2) (s' 1) (s' 2) t.time t'.time in
      let y = why_once r r' wr wr' c.reason (s 3) (s' 3) t.reason t'.reason in
      record {
        state = record { first = t.state ∙ sym t'.state; second = x.0; third = x.1; fourth = y.0 };
        reason = y.1;
        rival = rival_once h h' wh wh' c.competing t.rival t'.rival;
      }

record SameHeader (h h' v v' i i' w w' : ℕ → ℕ) : Type 0 where
  hash : Same h h'
  prev : Same v v'
  numbers : Same i i'
  amounts : Same w w'

module _ (x : Header) (h h' v v' i i' w w' : ℕ → ℕ) (bh : Group h) (bh' : Group h') (bv : Group v) (bv' : Group v') (bw : Group w) (bw' : Group w') where
  header_once : HeaderTold x h v i w → HeaderTold x h' v' i' w' → SameHeader h h' v v' i i' w w'
  header_once t t' =
      let target = amount_once x.target (i 2) (w 0) (w 1) (i' 2) (w' 0) (w' 1) bw.first bw'.first t.target t'.target in
      let actual = amount_once x.actual (i 3) (w 2) (w 3) (i' 3) (w' 2) (w' 3) bw.third bw'.third t.actual t'.actual in
      record {
        hash = hash_once h h' bh bh' (t.hash ∙ sym t'.hash);
        prev = hash_once v v' bv bv' (t.prev ∙ sym t'.prev);
        numbers = record { first = t.index ∙ sym t'.index; second = t.epoch ∙ sym t'.epoch; third = target.0; fourth = actual.0 };
        amounts = record { first = target.1; second = target.2; third = actual.1; fourth = actual.2 };
      }

-- ---- a block shown ----

abbrev pub Below : List ℕ → Type 0
Below out = (i : ℕ) → word out i < limb

group_below : (out : List ℕ) → Below out → (at : ℕ) → Group (seg out at 4)
group_below out b at = record { first = b (at + 0); second = b (at + 1); third = b (at + 2); fourth = b (at + 3) }

module _ (out out' : List ℕ) where
  -- the first n words are the same, and four more
  past : (n : ℕ) → ((i : ℕ) → i < n → word out i ≡ word out' i) → Same (seg out n 4) (seg out' n 4) → (i : ℕ) → i < n + 4 → word out i ≡ word out' i
  past n before f i h =
      by_bool (ltb i n) (λ z. before i (ltb-true i n z)) (λ z.
      let l = ltb-false i n z in
      let e : i ≡ n + (i - n) = omega arith in
      subst (λ (k : ℕ). word out k ≡ word out' k) (sym e) (go (i - n) (omega arith)))
    where
      go : (j : ℕ) → j < 4 → word out (n + j) ≡ word out' (n + j)
      go zero l = f.first
      go (suc zero) l = f.second
      go (suc (suc zero)) l = f.third
      go (suc (suc (suc zero))) l = f.fourth
      go (suc (suc (suc (suc j)))) l = absurd (omega arith)

  pub shown_once : (b : Block) → length out ≡ 29 → length out' ≡ 29 → Below out → Below out' → BlockTold b out → BlockTold b out' → out ≡ out'
  shown_once b l l' w w' t t' =
      let g = group_below out w in
      let g' = group_below out' w' in
      let s : ℕ → ℕ → ℕ = λ at. seg out at 4 in
      let s' : ℕ → ℕ → ℕ = λ at. seg out' at 4 in
      let h = header_once b.header (s 1) (s' 1) (s 5) (s' 5) (s 9) (s' 9) (s 13) (s' 13) (g 1) (g' 1) (g 5) (g' 5) (g 13) (g' 13) t.header t'.header in
      let c = copy_once b.copy (s 17) (s' 17) (s 21) (s' 21) (s 25) (s' 25) (g 21) (g' 21) (g 25) (g' 25) t.copy t'.copy in
      let one : (i : ℕ) → i < 1 → word out i ≡ word out' i = λ i x. let z : i ≡ 0 = omega arith in rw z (t.there ∙ sym t'.there) in
      let all = past 25 (past 21 (past 17 (past 13 (past 9 (past 5 (past 1 one h.hash) h.prev) h.numbers) h.amounts) c.state) c.reason) c.rival in
      ext_get_or 0 out out' (l ∙ sym l') (λ i x. all i (omega (arith, l)))

-- ---- an entry ----

pub record Numbers (e : Entry) : Type 0 where
  pub hash : Words e.hash1 e.hash2 e.hash3 e.hash4
  pub why : Words e.why1 e.why2 e.why3 e.why4
  pub rival : Words e.rival1 e.rival2 e.rival3 e.rival4

same_made : {a b c d s t n k w₁ w₂ w₃ w₄ r₁ r₂ r₃ r₄ a' b' c' d' s' t' n' k' w₁' w₂' w₃' w₄' r₁' r₂' r₃' r₄' : ℕ}
    → a ≡ a' → b ≡ b' → c ≡ c' → d ≡ d' → s ≡ s' → t ≡ t' → n ≡ n' → k ≡ k' → w₁ ≡ w₁' → w₂ ≡ w₂' → w₃ ≡ w₃' → w₄ ≡ w₄' → r₁ ≡ r₁' → r₂ ≡ r₂' → r₃ ≡ r₃' → r₄ ≡ r₄'
    → ◌≡◌ {A = Entry} (record { hash1 = a; hash2 = b; hash3 = c; hash4 = d; state = s; timed = t; time = n; why = k; why1 = w₁; why2 = w₂; why3 = w₃; why4 = w₄; rival1 = r₁; rival2 = r₂; rival3 = r₃; rival4 = r₄ })
    (record { hash1 = a'; hash2 = b'; hash3 = c'; hash4 = d'; state = s'; timed = t'; time = n'; why = k'; why1 = w₁'; why2 = w₂'; why3 = w₃'; why4 = w₄'; rival1 = r₁'; rival2 = r₂'; rival3 = r₃'; rival4 = r₄' })
same_made e₁ e₂ e₃ e₄ e₅ e₆ e₇ e₈ e₉ e₁₀ e₁₁ e₁₂ e₁₃ e₁₄ e₁₅ e₁₆ = rw (e₁, e₂, e₃, e₄, e₅, e₆, e₇, e₈, e₉, e₁₀, e₁₁, e₁₂, e₁₃, e₁₄, e₁₅, e₁₆)

-- the four groups of an entry's numbers
abbrev hash_in : Entry → ℕ → ℕ
hash_in e = quad e.hash1 e.hash2 e.hash3 e.hash4

abbrev state_in : Entry → ℕ → ℕ
state_in e = quad e.state e.timed e.time e.why

abbrev why_in : Entry → ℕ → ℕ
why_in e = quad e.why1 e.why2 e.why3 e.why4

abbrev rival_in : Entry → ℕ → ℕ
rival_in e = quad e.rival1 e.rival2 e.rival3 e.rival4

told_once : (x : model.Entry) (e e' : Entry) → Numbers e → Numbers e' → EntryTold x e → EntryTold x e' → e ≡ e'
told_once x e e' w w' t t' =
    let h = hash_once (hash_in e) (hash_in e') w.hash w'.hash (t.hash ∙ sym t'.hash) in
    let c = copy_once x.copy (state_in e) (state_in e') (why_in e) (why_in e') (rival_in e) (rival_in e') w.why w'.why w.rival w'.rival t.copy t'.copy in
    same_made h.first h.second h.third h.fourth c.state.first c.state.second c.state.third c.state.fourth
    c.reason.first c.reason.second c.reason.third c.reason.fourth c.rival.first c.rival.second c.rival.third c.rival.fourth

pub entry_once : (e e' : Entry) → Numbers e → Numbers e' → Plain e → Plain e' → entry_means e ≡ entry_means e' → e ≡ e'
entry_once e e' w w' t t' s = told_once (entry_means e) e e' w w' t (subst (λ (x : model.Entry). EntryTold x e') (sym s) t')

abbrev pub AllNumbers : List Entry → Type 0
AllNumbers [] = Unit {0}
AllNumbers (e ∷ l) = Numbers e × AllNumbers l

abbrev pub head_or : {A : Type 0} → A → List A → A
head_or d [] = d
head_or d (x ∷ l) = x

abbrev pub rest_of : {A : Type 0} → List A → List A
rest_of [] = []
rest_of (x ∷ l) = l

pub entries_once : (l l' : List Entry) → AllNumbers l → AllNumbers l' → AllPlain l → AllPlain l' → meanings l ≡ meanings l' → l ≡ l'
entries_once [] [] w w' t t' s = refl
entries_once [] (e' ∷ l') w w' t t' s = let z : 0 ≡ suc (length (meanings l')) = ap (λ (y : List model.Entry). length y) s in absurd (omega arith)
entries_once (e ∷ l) [] w w' t t' s = let z : suc (length (meanings l)) ≡ 0 = ap (λ (y : List model.Entry). length y) s in absurd (omega arith)
entries_once (e ∷ l) (e' ∷ l') w w' t t' s =
    let first : e ≡ e' = entry_once e e' w.0 w'.0 t.0 t'.0 (ap (head_or (entry_means e)) s) in
    let rest : l ≡ l' = entries_once l l' w.1 w'.1 t.1 t'.1 (ap rest_of s) in
    rw (first, rest)
