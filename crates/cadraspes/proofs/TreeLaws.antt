-- A sync, or a question about the tree, over the boundary is the one inside.
use mathlib.Core.List.{List}
use mathlib.Core.Option.{Option}
use mathlib.Core.Path.{◌≡◌, refl, sym, ap, ◌∙◌, subst}
use Prim.Native.Nat.{ℕ}
use Rattle.amount.specs.Value as amount
use Rattle.asking.specs.AskedTree.{AskedTree}
use Rattle.block.specs.Answers.{counted_number, counted_reply, shown_number, shown_reply, worth_number, worth_reply, tip_number, tip_reply}
use Rattle.block.specs.declared.Counted.{Counted}
use Rattle.block.specs.declared.Counted.TheVariants.{Count, Refused as CountRefused}
use Rattle.block.specs.declared.Shown.{Shown}
use Rattle.block.specs.declared.Shown.TheVariants.{Block as ShownBlock, None as ShownNone, Refused as ShownRefused}
use Rattle.block.specs.declared.Worth.{Worth}
use Rattle.block.specs.declared.Worth.TheVariants.{Linked, None as WorthNone, Refused as WorthRefused}
use Rattle.block.specs.declared.Tip.{Tip}
use Rattle.block.specs.declared.Tip.TheVariants.{Best, None as TipNone, Refused as TipRefused}
use Rattle.model.specs.Numbers.{sync}
use Rattle.model.specs.Questions.{TreeQuestion, shown, tip}
use Rattle.model.specs.Record as model
use Rattle.model.specs.Standing.{unlinked, linked}
use Rattle.tree.specs.Calls.{Keeps}
use Rattle.boundary.specs.Told.{count_or, CountTold, ShownIn, ShownTold}
use Rattle.boundary.specs.ToldTree.{TreeCounts, TreeShows, WorthIn, WorthTold, TreeWorths, tip_shown, tip_worth, TipTold, TreeTips}
use Rattle.boundary.proofs.ToldLaws.{refused_not_0}
use Rattle.boundary.proofs.ShownLaws.{some_not_none, told_in, told_none}

pub syncs : {r r' : ℕ} {m m' : List ℕ} → r' ≡ r → Keeps sync m m' r → Keeps sync m m' r'
syncs {r} {r'} {m} {m'} e s = subst (Keeps sync m m') (sym e) s

-- what was answered inside, and the words written for it
module _ (q : TreeQuestion) (m : List ℕ) where
  counts_in : (a : Counted) (x : ℕ) → AskedTree q m (counted_number a) (counted_reply a) → TreeCounts q m x (count_or a x) (counted_number a)
  counts_in (Count n) x k = record { refused = λ no. absurd (no refl); asked = k }
  counts_in (CountRefused y) x k =
      record { refused = λ no. refl; asked = record { number_is = k.number_is; reply_is = λ w z. absurd (refused_not_0 y z) } }

  shows_in : (out out' : List ℕ) (a : Shown) → ShownIn a out out' → AskedTree q m (shown_number a) (shown_reply a) → TreeShows q m out out' (shown_number a)
  shows_in out out' (ShownBlock b) t k =
      record {
        refused = λ no. absurd (no refl);
        asked = record { number_is = k.number_is; reply_is = λ w z. ap shown t.is ∙ k.reply_is w z };
        block_told = λ z. told_in t;
        none-shown = λ z no. absurd (some_not_none (sym t.is ∙ no));
      }
  shows_in out out' ShownNone t k =
      record {
        refused = λ no. absurd (no refl);
        asked = record { number_is = k.number_is; reply_is = λ w z. ap shown t.1 ∙ k.reply_is w z };
        block_told = λ z. told_none out' t.1;
        none-shown = λ z no. t.0;
      }
  shows_in out out' (ShownRefused y) t k =
      record {
        refused = λ no. t;
        asked = record { number_is = k.number_is; reply_is = λ w z. absurd (refused_not_0 y z) };
        block_told = λ z. absurd (refused_not_0 y z);
        none-shown = λ z no. absurd (refused_not_0 y z);
      }

  worths_in : (out out' : List ℕ) (a : Worth) → WorthIn a out out' → AskedTree q m (worth_number a) (worth_reply a) → TreeWorths q m out out' (worth_number a)
  worths_in out out' (Linked w ok) t k = record { refused = λ no. absurd (no refl); value = linked (amount.value w) ok; asked = k; told = λ z. t }
  worths_in out out' WorthNone t k = record { refused = λ no. absurd (no refl); value = unlinked; asked = k; told = λ z. t }
  worths_in out out' (WorthRefused y) t k = record { refused = λ no. t; value = unlinked; asked = k; told = λ z. absurd (refused_not_0 y z) }

  tips_in : (out out' words words' : List ℕ) (a : Tip) → ShownIn (tip_shown a) out out' → WorthIn (tip_worth a) words words' → AskedTree q m (tip_number a) (tip_reply a) → TreeTips q m out out' words words' (tip_number a)
  tips_in out out' words words' (Best b w ok) s t k =
      record {
        refused = λ no. absurd (no refl);
        value = linked (amount.value w) ok;
        asked = record { number_is = k.number_is; reply_is = λ h z. ap (λ (o : Option model.Block). tip o (linked (amount.value w) ok)) s.is ∙ k.reply_is h z };
        block_told = λ z. told_in s;
        none-shown = λ z no. absurd (some_not_none (sym s.is ∙ no));
        told = λ z. t;
      }
  tips_in out out' words words' TipNone s t k =
      record {
        refused = λ no. absurd (no refl);
        value = unlinked;
        asked = record { number_is = k.number_is; reply_is = λ h z. ap (λ (o : Option model.Block). tip o unlinked) s.1 ∙ k.reply_is h z };
        block_told = λ z. told_none out' s.1;
        none-shown = λ z no. s.0;
        told = λ z. t;
      }
  tips_in out out' words words' (TipRefused y) s t k =
      record {
        refused = λ no. (s, t);
        value = unlinked;
        asked = record { number_is = k.number_is; reply_is = λ h z. absurd (refused_not_0 y z) };
        block_told = λ z. absurd (refused_not_0 y z);
        none-shown = λ z no. absurd (refused_not_0 y z);
        told = λ z. absurd (refused_not_0 y z);
      }

pub tree_counts : {q : TreeQuestion} {m : List ℕ} {a : Counted} {x x' r : ℕ} → CountTold a x x' r → AskedTree q m (counted_number a) (counted_reply a) → TreeCounts q m x x' r
tree_counts {q} {m} {a} {x} {x'} {r} t k =
    subst (λ (y : ℕ). TreeCounts q m x y r) (sym t.told) (subst (TreeCounts q m x (count_or a x)) (sym t.number_is) (counts_in q m a x k))

pub tree_shows : {q q' : TreeQuestion} {m out out' : List ℕ} {r : ℕ} {a : Shown} → q ≡ q' → ShownTold a out out' r → AskedTree q m (shown_number a) (shown_reply a) → TreeShows q' m out out' r
tree_shows {q} {q'} {m} {out} {out'} {r} {a} e t k =
    subst (λ (z : TreeQuestion). TreeShows z m out out' r) e
    (subst (TreeShows q m out out') (sym t.number_is) (shows_in q m out out' a t.told k))

pub tree_worths : {q q' : TreeQuestion} {m out out' : List ℕ} {r : ℕ} {a : Worth} → q ≡ q' → WorthTold a out out' r → AskedTree q m (worth_number a) (worth_reply a) → TreeWorths q' m out out' r
tree_worths {q} {q'} {m} {out} {out'} {r} {a} e t k =
    subst (λ (z : TreeQuestion). TreeWorths z m out out' r) e
    (subst (TreeWorths q m out out') (sym t.number_is) (worths_in q m out out' a t.told k))

tip_number_lem : (a : Tip) → shown_number (tip_shown a) ≡ tip_number a
tip_number_lem (Best b w ok) = refl
tip_number_lem TipNone = refl
tip_number_lem (TipRefused y) = refl

pub tree_tips : {q : TreeQuestion} {m out out' words words' : List ℕ} {r : ℕ} {a : Tip} → TipTold a out out' words words' r → AskedTree q m (tip_number a) (tip_reply a) → TreeTips q m out out' words words' r
tree_tips {q} {m} {out} {out'} {words} {words'} {r} {a} t k =
    subst (TreeTips q m out out' words words') (sym (t.block.number_is ∙ tip_number_lem a))
    (tips_in q m out out' words words' a t.block.told t.value.told k)
