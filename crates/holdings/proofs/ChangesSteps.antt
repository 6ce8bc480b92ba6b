-- Changes, as they are answered and handed out.
use mathlib.Core.Path.{◌≡◌, refl, sym, ap, ◌∙◌, subst}
use mathlib.Core.List.{List}
use mathlib.Core.Option.{Option, none, some}
use Prim.Native.Nat.{ℕ, ◌/◌, ◌≤◌, ◌<◌}
use native.Mathlib.Omega.{arith}
use lib.ListN.{length}
use borrow.Author.Tests.{lt-ltb, le-ltb}
use Rattle.amount.specs.Choose.{◌if◌else◌}
use Rattle.model.specs.Holding.{changes_since}
use Rattle.model.specs.Questions.{changes_q, listed, too_short}
use Rattle.model.specs.Numbers.{ask_holdings}
use Rattle.block.specs.Answers.{listed_number}
use Rattle.block.specs.declared.Listed.{Listed}
use Rattle.block.specs.declared.Listed.TheVariants.{Count, None, Refused}
use Rattle.block.specs.declared.Refusal.TheVariants.{List as Short}
use Rattle.journal.specs.declared.Had.TheVariants.{None as HadNone, Count as HadCount}
use Rattle.journal.specs.Changes.{changes_of, had_of, Writes}
use Rattle.journal.proofs.ChangesLaws.{counted_list, nothing_had}
use Rattle.memory.specs.Words.{word}
use Rattle.memory.specs.Layout.{Laid}
use Rattle.state.specs.View.{view_at}
use Rattle.state.specs.Sound.{SoundAt}
use Rattle.state.specs.Handing.{places_in, listed_of, handed}
use Rattle.holdings.specs.Asked.{ChangesAt, Changes}

-- ---- in answer ----

module _ (g v : ℕ) (m : List ℕ) (n : ℕ) (list : List ℕ) where
  since : changes_since (view_at m n).holdings g v ≡ changes_of m n g v
  unfolding changes_since view_at
  since = refl

  number : (o : Option (List ℕ)) → changes_of m n g v ≡ o → ask_holdings (changes_q g v (places_in list)) (view_at m n) ≡ (13 if too_short (places_in list) (listed o) else 0)
  number o e = ap (λ x. 13 if too_short (places_in list) (listed x) else 0) (since ∙ e)

  pub changes_none : (SoundAt m n → HadNone ≡ had_of (changes_of m n g v)) → ChangesAt g v m n list list None
  changes_none had = record {
    refused = λ _. refl;
    number_is = λ s. sym (number none (nothing_had _ (had s)));
    right = λ s z. let e = since ∙ nothing_had _ (had s) in record { answer_is = ap listed_of (sym e); list_is = ap (handed list) (sym e) };
  }

  module _ (k : ℕ) (had : SoundAt m n → HadCount k ≡ had_of (changes_of m n g v)) where
    pub changes_short : length list / 32 < k → ChangesAt g v m n list list (Refused Short)
    changes_short l = record {
      refused = λ _. refl;
      number_is = λ s. let h = counted_list _ k (had s) in sym (number (some h.list) h.is ∙ ap (λ b. 13 if b else 0) (lt-ltb (places_in list) (length h.list) (subst (λ (i : ℕ). length list / 32 < i) h.long l)));
      right = λ s z. absurd (omega (arith, z));
    }

    pub changes_written : (list' : List ℕ) → k ≤ length list / 32 → Writes m n v list list' → ChangesAt g v m n list list' (Count k)
    changes_written list' l w = record {
      refused = λ ne. absurd (ne refl);
      number_is = λ s. let h = counted_list _ k (had s) in sym (number (some h.list) h.is ∙ ap (λ b. 13 if b else 0) (le-ltb (places_in list) (length h.list) (subst (λ (i : ℕ). i ≤ length list / 32) h.long l)));
      right = λ s z.
          let h = counted_list _ k (had s) in
          let e = since ∙ h.is in
          let q = h.long in
          record {
            answer_is = ap Count h.long ∙ ap listed_of (sym e);
            list_is = w.is s.journal g h.list h.is (omega arith) ∙ ap (handed list) (sym e);
          };
    }

-- ---- the whole memory ----

module _ (g v : ℕ) (m list : List ℕ) (n : ℕ) (e : Laid m (word m 0) → n ≡ word m 0) where
  pub changes_nowhere : n ≡ 0 → (list' : List ℕ) (x : Listed) → ((listed_number x ≡ 0 → ⊥) → list' ≡ list) → Changes g v m list list' x
  changes_nowhere z list' x f = record { refused = f; number_is = λ s. never s; right = λ s. never s }
    where
      never : {A : Type 0} → SoundAt m (word m 0) → A
      never s = let i = e s.laid in let o = s.laid.some in absurd (omega arith)

  pub changes_whole : (list' : List ℕ) (x : Listed) → ChangesAt g v m n list list' x → Changes g v m list list' x
  changes_whole list' x w = record {
    refused = w.refused;
    number_is = λ s. (moved s).number_is s;
    right = λ s. (moved s).right s;
  }
    where
      moved : SoundAt m (word m 0) → ChangesAt g v m (word m 0) list list' x
      moved s = subst (λ (i : ℕ). ChangesAt g v m i list list' x) (e s.laid) w
