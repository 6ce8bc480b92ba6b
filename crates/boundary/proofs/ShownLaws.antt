-- A block that is written for a host reads as what was answered inside; and a list's two words.
use mathlib.Core.List.{List}
use mathlib.Core.Option.{Option, none, some}
use mathlib.Core.Path.{◌≡◌, refl, sym, ap, ◌∙◌, subst}
use Prim.Native.Nat.{ℕ, ◌+◌, ◌≤◌}
use native.Mathlib.Omega.{arith}
use lib.ListN.{length, set}
use Rattle.block.specs.Answers.{shown_number, shown_reply, refusal_number}
use Rattle.block.specs.Records.{header_means}
use Rattle.block.specs.Telling.{HeaderTold}
use Rattle.block.specs.declared.Block.{Block}
use Rattle.block.specs.declared.Refusal.{Refusal}
use Rattle.block.specs.declared.Shown.{Shown}
use Rattle.block.specs.declared.Shown.TheVariants.{Block as ShownBlock, None as ShownNone, Refused as ShownRefused}
use Rattle.block.specs.declared.Listed.{Listed}
use Rattle.block.specs.declared.Listed.TheVariants.{Count as ListedAt, None as ListNone}
use Rattle.holdings.specs.Asked.{Asked}
use Rattle.memory.specs.Words.{word, seg, Stored}
use Rattle.memory.proofs.WordLaws.{stored_same, seg_same}
use Rattle.model.specs.Questions.{effective_q, shown}
use Rattle.model.specs.Record as model
use Rattle.rows.specs.Rows.{header_at, copy_at}
use Rattle.rows.specs.Written.{Headed, Copied}
use Rattle.state.proofs.ViewLaws.{header_same}
use Rattle.state.specs.Sound.{Sound}
use Rattle.boundary.specs.Told.{block_in, ToldIn, BlockWritten, ShownIn, ShownTold, Shows, ListTold}
use Rattle.boundary.proofs.ToldLaws.{refused_not_0}

-- ---- blocks ----

block_in_lem : (out : List ℕ) (h : model.Header) (c : model.Copy) → word out 0 ≡ 1 → header_at out 1 ≡ h → copy_at out 17 ≡ some c → block_in out ≡ some (record { header = h; copy = c })
block_in_lem out h c one eh ec = rw (one, eh, ec) refl

header_moved : (x : model.Header) {h h' v v' i i' w w' : ℕ → ℕ} → h' ≡ h → v' ≡ v → i' ≡ i → w' ≡ w → HeaderTold x h v i w → HeaderTold x h' v' i' w'
header_moved x e₀ e₁ e₂ e₃ t = rw (e₀, e₁, e₂, e₃) t

module _ (m m₁ m₂ m₃ : List ℕ) (b : Block) (long : length m ≡ 29) (s : Stored m m₁ 0 1) (h : Headed m₁ m₂ 1 b.header) (k : Copied m₂ m₃ 17 b.copy) where
  one : word m₃ 0 ≡ 1
  one = k.only 0 (omega arith) ∙ h.only 0 (omega arith) ∙ stored_same s (omega arith)

  -- a group of the header, which the copy's words pass by
  kept : (at : ℕ) → at ≤ 13 → seg m₃ at 4 ≡ seg m₂ at 4
  kept at l = seg_same m₂ m₃ at 4 (λ i less. k.only (at + i) (omega arith))

  pub block_written : BlockWritten b m₃
  block_written =
      record {
        is = block_in_lem m₃ _ _ one (header_same m₂ m₃ 1 (λ a lo hi. k.only a (omega arith)) ∙ h.is) k.is;
        told = record {
          there = one;
          header = header_moved (header_means b.header) (kept 1 (omega arith)) (kept 5 (omega arith)) (kept 9 (omega arith)) (kept 13 (omega arith)) h.told;
          copy = k.told;
        };
      }

none_in : (out : List ℕ) → word out 0 ≡ 0 → block_in out ≡ none
none_in out e = rw e refl

pub tells_block : {a : Shown} {b : Block} {out out' : List ℕ} → a ≡ ShownBlock b → BlockWritten b out' → ShownTold a out out' 0
tells_block {a} {b} {out} {out'} e w = subst (λ (z : Shown). ShownTold z out out' 0) (sym e) (record { number_is = refl; told = w })

pub tells_none : {a : Shown} (out : List ℕ) → length out ≡ 29 → a ≡ ShownNone → ShownTold a out (set out 0 0) 0
tells_none {a} out long e =
    let z : Stored out (set out 0 0) 0 0 = record { now_is = refl } in
    subst (λ (y : Shown). ShownTold y out (set out 0 0) 0) (sym e) (record { number_is = refl; told = (refl, none_in (set out 0 0) (stored_same z (omega arith))) })

pub tells_no_block : {a : Shown} {y : Refusal} {r : ℕ} (out : List ℕ) → a ≡ ShownRefused y → r ≡ refusal_number y → ShownTold a out out r
tells_no_block {a} {y} {r} out e n = subst (λ (z : Shown). ShownTold z out out r) (sym e) (record { number_is = n; told = refl })

abbrev There : Option model.Block → Type 0
There none = ⊥
There (some y) = Unit {0}

pub some_not_none : {y : model.Block} → some y ≡ none → ⊥
some_not_none e = subst (λ (o : Option model.Block). There o) e tt

pub told_in : {b : Block} {out : List ℕ} → BlockWritten b out → ToldIn (block_in out) out
told_in {b} {out} w = subst (λ (o : Option model.Block). ToldIn o out) (sym w.is) w.told

pub told_none : (out : List ℕ) → block_in out ≡ none → ToldIn (block_in out) out
told_none out e = subst (λ (o : Option model.Block). ToldIn o out) (sym e) tt

-- the answer inside, and the words written for it
module _ (m out out' : List ℕ) (x : ℕ) where
  shows_in : (a : Shown) → ShownIn a out out' → Asked (effective_q x) m (shown_number a) (shown_reply a) → Shows (effective_q x) m out out' (shown_number a)
  shows_in (ShownBlock b) t k =
      record {
        refused = λ no. absurd (no refl);
        asked = record { number_is = k.number_is; reply_is = λ s. ap shown t.is ∙ k.reply_is s };
        block_told = λ z. told_in t;
        none-shown = λ z no. absurd (some_not_none (sym t.is ∙ no));
      }
  shows_in ShownNone t k =
      record {
        refused = λ no. absurd (no refl);
        asked = record { number_is = k.number_is; reply_is = λ s. ap shown t.1 ∙ k.reply_is s };
        block_told = λ z. told_none out' t.1;
        none-shown = λ z no. t.0;
      }
  shows_in (ShownRefused y) t k =
      let not : Sound m → ⊥ = λ s. refused_not_0 y (k.number_is s) in
      record {
        refused = λ no. t;
        asked = record { number_is = k.number_is; reply_is = λ s. absurd (not s) };
        block_told = λ z. absurd (refused_not_0 y z);
        none-shown = λ z no. absurd (refused_not_0 y z);
      }

pub shows : {m out out' : List ℕ} {x x' r : ℕ} {a : Shown} → x ≡ x' → ShownTold a out out' r → Asked (effective_q x) m (shown_number a) (shown_reply a) → Shows (effective_q x') m out out' r
shows {m} {out} {out'} {x} {x'} {r} {a} e t k =
    subst (λ (z : ℕ). Shows (effective_q z) m out out' r) e
    (subst (Shows (effective_q x) m out out') (sym t.number_is) (shows_in m out out' x a t.told k))

-- ---- lists ----

pub tells_listed : {a : Listed} {n : ℕ} (out : List ℕ) → a ≡ ListedAt n → ListTold a out (set (set out 0 1) 1 n) 0
tells_listed {a} {n} out e = subst (λ (z : Listed). ListTold z out (set (set out 0 1) 1 n) 0) (sym e) (record { number_is = refl; told = refl })

pub tells_no_list : {a : Listed} (out : List ℕ) → a ≡ ListNone → ListTold a out (set (set out 0 0) 1 0) 0
tells_no_list {a} out e = subst (λ (z : Listed). ListTold z out (set (set out 0 0) 1 0) 0) (sym e) (record { number_is = refl; told = refl })
