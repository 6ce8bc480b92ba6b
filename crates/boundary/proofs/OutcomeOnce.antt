-- A question that shows a block, and a plan, leave no slack (document 01, "Promises that leave no slack"): of a memory that calls left, two outcomes that a contract permits are the same,
-- number and words and list. (What is lent has its length and its words below 2^64 by its type.)
--     shows-once         effective
--     tree-shows-once    node, parent
--     tree-tips-once     both bests
--     entry-plans-once   both plans
use mathlib.Core.List.{List, [], ◌∷◌}
use mathlib.Core.Option.{Option, none, some}
use mathlib.Core.Path.{◌≡◌, refl, sym, ap, subst, ◌∙◌}
use Prim.Native.Nat.{ℕ, zero, suc, ◌≤◌, ◌<◌}
use native.Mathlib.Omega.{arith}
use lib.Dec.{eqb}
use lib.ListN.{length, set, take, drop}
use lib.Seq.{ext_get_or}
use borrow.Author.Tests.{eqb-true, eqb-false, le-leb}
use Rattle.asking.specs.Whole.{Whole}
use Rattle.block.specs.Answers.{planned_number, planned_reply}
use Rattle.block.specs.declared.Planned.{Planned}
use Rattle.block.specs.declared.Planned.TheVariants.{Scan, Apply, Refused}
use Rattle.block.proofs.AnswerLaws.{refusal_is_none}
use Rattle.entries.specs.declared.Entry.{Entry}
use Rattle.entries.specs.Handing.{meanings, AllPlain}
use Rattle.memory.specs.Words.{word}
use Rattle.model.proofs.Tools.{by_bool}
use Rattle.model.specs.Plans.{PlanCall, PlanReply, scanned, applied}
use Rattle.model.specs.Questions.{HoldingsQuestion, TreeQuestion, Reply, shown, worth, tip, counted, listed}
use Rattle.model.specs.Record.{Block}
use Rattle.model.specs.Standing.{Value, unlinked}
use Rattle.model.specs.Writes as model
use Rattle.plans.specs.Plan.{handed}
use Rattle.plans.proofs.CallLaws.{take-meanings}
use Rattle.plans.proofs.PlanOnce.{plan_once}
use Rattle.state.specs.Sound.{Sound}
use Rattle.boundary.specs.Planning.{planned_in, EntryPlans}
use Rattle.boundary.specs.Told.{block_in, ToldIn, Shows}
use Rattle.boundary.specs.ToldTree.{ValueTold, TreeShows, TreeTips}
use Rattle.boundary.proofs.ToldOnce.{Below, AllNumbers, head_or, rest_of, shown_once, value_once, entries_once}

-- ---- what a reply shows ----

abbrev block_of : Reply → Option Block
block_of (shown b) = b
block_of (worth v) = none
block_of (tip b v) = b
block_of (counted n) = none
block_of (listed l) = none

abbrev value_of : Reply → Value
value_of (shown b) = unlinked
value_of (worth v) = v
value_of (tip b v) = v
value_of (counted n) = unlinked
value_of (listed l) = unlinked

-- words lent, of so many and each below 2^64
pub record Lent (n : ℕ) (out : List ℕ) : Type 0 where
  pub long : length out ≡ n
  pub below : Below out

-- the words out, and o or o' after the question
module _ (out o o' : List ℕ) (l : Lent 29 o) (l' : Lent 29 o') where
  by_block : (x : Option Block) → block_in o ≡ x → block_in o' ≡ x → ToldIn x o → ToldIn x o' → (block_in o ≡ none → o ≡ set out 0 0) → (block_in o' ≡ none → o' ≡ set out 0 0) → o ≡ o'
  by_block none e e' t t' n n' = n e ∙ sym (n' e')
  by_block (some b) e e' t t' n n' = shown_once o o' b l.long l'.long l.below l'.below t t'

  words_once : block_in o ≡ block_in o' → ToldIn (block_in o) o → ToldIn (block_in o') o' → (block_in o ≡ none → o ≡ set out 0 0) → (block_in o' ≡ none → o' ≡ set out 0 0) → o ≡ o'
  words_once e t t' = by_block (block_in o) refl (sym e) t (subst (λ (x : Option Block). ToldIn x o') (sym e) t')

  pub shows_once : (q : HoldingsQuestion) (m : List ℕ) (r r' : ℕ) → Sound m → Shows q m out o r → Shows q m out o' r' → (r ≡ r') × (o ≡ o')
  shows_once q m r r' s k k' =
      let e : r ≡ r' = k.asked.number_is s ∙ sym (k'.asked.number_is s) in
      let b : block_in o ≡ block_in o' = ap block_of (k.asked.reply_is s ∙ sym (k'.asked.reply_is s)) in (
        e,
        by_bool (eqb r 0)
            (λ z. let y = eqb-true r 0 z in words_once b (k.block_told y) (k'.block_told (sym e ∙ y)) (k.none-shown y) (k'.none-shown (sym e ∙ y)))
            (λ z. let no = eqb-false r 0 z in k.refused no ∙ sym (k'.refused (λ y. no (e ∙ y)))),
      )

  pub tree_shows_once : (q : TreeQuestion) (m : List ℕ) (r r' : ℕ) → Whole m → TreeShows q m out o r → TreeShows q m out o' r' → (r ≡ r') × (o ≡ o')
  tree_shows_once q m r r' w k k' =
      let e : r ≡ r' = k.asked.number_is w ∙ sym (k'.asked.number_is w) in (
        e,
        by_bool (eqb r 0)
            (λ z. let y = eqb-true r 0 z in let y' = sym e ∙ y in
            let b : block_in o ≡ block_in o' = ap block_of (k.asked.reply_is w y ∙ sym (k'.asked.reply_is w y')) in
            words_once b (k.block_told y) (k'.block_told y') (k.none-shown y) (k'.none-shown y'))
            (λ z. let no = eqb-false r 0 z in k.refused no ∙ sym (k'.refused (λ y. no (e ∙ y)))),
      )

  -- and a linked value's three words, v or v' after the question
  module _ (words v v' : List ℕ) (h : Lent 3 v) (h' : Lent 3 v') where
    value_same : (x x' : Value) → x ≡ x' → ValueTold x v → ValueTold x' v' → v ≡ v'
    value_same x x' e t t' =
        let a = value_once x (word v 0) (word v 1) (word v 2) (word v' 0) (word v' 1) (word v' 2) (h.below 1) (h'.below 1) t.is (subst (λ (y : Value). ValueTold y v') (sym e) t').is in
        ext_get_or 0 v v' (h.long ∙ sym h'.long) (λ i z. three a.0 a.1 a.2 i (omega (arith, h.long)))
      where
        three : word v 0 ≡ word v' 0 → word v 1 ≡ word v' 1 → word v 2 ≡ word v' 2 → (i : ℕ) → i < 3 → word v i ≡ word v' i
        three a b c zero z = a
        three a b c (suc zero) z = b
        three a b c (suc (suc zero)) z = c
        three a b c (suc (suc (suc i))) z = absurd (omega arith)

    pub tree_tips_once : (q : TreeQuestion) (m : List ℕ) (r r' : ℕ) → Whole m → TreeTips q m out o words v r → TreeTips q m out o' words v' r' → (r ≡ r') × (o ≡ o') × (v ≡ v')
    tree_tips_once q m r r' w k k' =
        let e : r ≡ r' = k.asked.number_is w ∙ sym (k'.asked.number_is w) in
        let both : (o ≡ o') × (v ≡ v') = by_bool (eqb r 0)
        (λ z. let y = eqb-true r 0 z in let y' = sym e ∙ y in
        let same = k.asked.reply_is w y ∙ sym (k'.asked.reply_is w y') in
        let b : block_in o ≡ block_in o' = ap block_of same in
        (words_once b (k.block_told y) (k'.block_told y') (k.none-shown y) (k'.none-shown y'), value_same k.value k'.value (ap value_of same) (k.told y) (k'.told y')))
        (λ z. let no = eqb-false r 0 z in let f = k.refused no in let f' = k'.refused (λ y. no (e ∙ y)) in (f.0 ∙ sym f'.0, f.1 ∙ sym f'.1)) in
        (e, both.0, both.1)

-- ---- a plan ----

abbrev entries_of : PlanReply → List model.Entry
entries_of scanned = []
entries_of (applied changed l) = l

numbers_take : (n : ℕ) (l : List Entry) → AllNumbers l → AllNumbers (take n l)
numbers_take zero l w = tt
numbers_take (suc n) [] w = tt
numbers_take (suc n) (e ∷ l) w = (w.0, numbers_take n l w.1)

parts_same : (n : ℕ) (l l' : List Entry) → take n l ≡ take n l' → drop n l ≡ drop n l' → l ≡ l'
parts_same zero l l' e f = f
parts_same (suc n) [] [] e f = refl
parts_same (suc n) [] (x' ∷ l') e f = let z : 0 ≡ suc (length (take n l')) = ap (λ (y : List Entry). length y) e in absurd (omega arith)
parts_same (suc n) (x ∷ l) [] e f = let z : suc (length (take n l)) ≡ 0 = ap (λ (y : List Entry). length y) e in absurd (omega arith)
parts_same (suc n) (x ∷ l) (x' ∷ l') e f =
    let first : x ≡ x' = ap (head_or x) e in
    let rest : l ≡ l' = parts_same n l l' (ap rest_of e) f in
    rw (first, rest)

-- the entries of one answer
list_once : (a : Planned) (list l l' : List Entry) → AllNumbers l → AllNumbers l' → planned_number a ≡ 0 → handed a ≤ length (meanings l) → handed a ≤ length (meanings l')
    → planned_reply (meanings l) a ≡ planned_reply (meanings l') a → AllPlain (take (handed a) l) → AllPlain (take (handed a) l') → drop (handed a) l ≡ drop (handed a) list → drop (handed a) l' ≡ drop (handed a) list → l ≡ l'
list_once Scan list l l' w w' z f f' e p p' d d' = d ∙ sym d'
list_once (Refused y) list l l' w w' z f f' e p p' d d' = absurd (refusal_is_none y z)
list_once (Apply changed n) list l l' w w' z f f' e p p' d d' =
    let t : applied changed (take n (meanings l)) ≡ applied changed (take n (meanings l')) = sym (whole l f) ∙ e ∙ whole l' f' in
    let s : meanings (take n l) ≡ meanings (take n l') = sym (take-meanings n l) ∙ ap entries_of t ∙ take-meanings n l' in
    parts_same n l l' (entries_once (take n l) (take n l') (numbers_take n l w) (numbers_take n l' w') p p' s) (d ∙ sym d')
  where
    whole : (k : List Entry) → n ≤ length (meanings k) → planned_reply (meanings k) (Apply changed n) ≡ applied changed (take n (meanings k))
    whole k h = rw (le-leb n (length (meanings k)) h)

left_as_it_was : (a : Planned) (out : List ℕ) → (planned_number a ≡ 0 → ⊥) → planned_in a out ≡ out
left_as_it_was Scan out ne = absurd (ne refl)
left_as_it_was (Apply changed n) out ne = absurd (ne refl)
left_as_it_was (Refused y) out ne = refl

module _ (c : PlanCall) (m m₁ m₂ : List ℕ) (list l l' : List Entry) (out o o' : List ℕ) (r r' : ℕ) (w : Whole m) (fit : AllNumbers l) (fit' : AllNumbers l')
    (k : EntryPlans c m m₁ list l out o r) (k' : EntryPlans c m m₂ list l' out o' r') where
  number : r ≡ r'
  number = k.number_is ∙ k.replies.number_is w ∙ sym (k'.replies.number_is w) ∙ sym k'.number_is

  done : r ≡ 0 → (l ≡ l') × (o ≡ o')
  done z =
      let y = sym k.number_is ∙ z in
      let y' = sym k'.number_is ∙ sym number ∙ z in
      let a : k.answer ≡ k'.answer = plan_once c m m₁ (word m 0) (meanings l) k.answer k.replies w y ∙ sym (plan_once c m m₂ (word m 0) (meanings l') k'.answer k'.replies w y') in
      let reply = k.replies.reply_is w y ∙ sym (k'.replies.reply_is w y') in (
        list_once k.answer list l l' fit fit' y (k.replies.fits w) (subst (λ (x : Planned). handed x ≤ length (meanings l')) (sym a) (k'.replies.fits w))
            (reply ∙ ap (planned_reply (meanings l')) (sym a)) k.plain (subst (λ (x : Planned). AllPlain (take (handed x) l')) (sym a) k'.plain) k.rest
            (subst (λ (x : Planned). drop (handed x) l' ≡ drop (handed x) list) (sym a) k'.rest),
        k.told ∙ ap (λ (x : Planned). planned_in x out) a ∙ sym k'.told,
      )

  refused : (r ≡ 0 → ⊥) → (l ≡ l') × (o ≡ o')
  refused ne =
      let ne' : r' ≡ 0 → ⊥ = λ z. ne (number ∙ z) in (
        k.refused ne ∙ sym (k'.refused ne'),
        k.told ∙ left_as_it_was k.answer out (λ z. ne (k.number_is ∙ z)) ∙ sym (left_as_it_was k'.answer out (λ z. ne' (k'.number_is ∙ z))) ∙ sym k'.told,
      )

  pub entry_plans_once : (r ≡ r') × (l ≡ l') × (o ≡ o')
  entry_plans_once = let both : (l ≡ l') × (o ≡ o') = by_bool (eqb r 0) (λ z. done (eqb-true r 0 z)) (λ z. refused (eqb-false r 0 z)) in (number, both.0, both.1)
