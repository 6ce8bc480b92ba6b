-- A walk that is noted place by place: the words that may change leave the tree of the memory alone, and what is noted is the walk's front.
use mathlib.Core.Path.{◌≡◌, sym, ap, ◌∙◌}
use mathlib.Core.List.{List, [], ◌∷◌}
use Prim.Native.Nat.{ℕ, suc, ◌+◌, ◌≤◌, ◌<◌}
use native.Mathlib.Omega.{arith}
use lib.ListN.{length, get_or}
use lib.Dec.{eqb}
use borrow.Author.Tests.{eqb-true, eqb-false}
use Rattle.memory.specs.Words.{word, Stored}
use Rattle.memory.specs.Layout.{row, Laid}
use Rattle.memory.proofs.WordLaws.{stored_same, stored_other, stored_long}
use Rattle.model.specs.Holding.{Holdings}
use Rattle.model.specs.Standing.{parent}
use Rattle.model.specs.Walks.{walk}
use Rattle.model.proofs.Tools.{by_bool}
use Rattle.state.specs.Sound.{SoundAt, placed}
use Rattle.state.specs.View.{view_at}
use Rattle.state.specs.TreeOnly.{TreeOnly}
use Rattle.state.proofs.FindLaws.{placed_in, placed_out}
use Rattle.state.proofs.SoundLaws.{laid_same}
use Rattle.state.proofs.TreeSteps.{tree_holdings, tree_sound}
use Rattle.walks.specs.Walked.{LineOnly, Lined}
use Rattle.walks.proofs.DownLaws.{walk_end, walk_on, walk_some, room_most}

-- ---- what may change ----

pub line_tree : (m m' : List ℕ) (n : ℕ) → LineOnly m m' n → TreeOnly m m' n
line_tree m m' n o = record {
  long = o.long;
  head = λ a h x. o.only a (λ q i e. omega arith);
  rows = λ q k h l x. o.only (row q + k) (λ r i e. omega arith);
  indexes = λ a h l. o.only a (λ q i e. omega arith);
  free = λ a h l. o.only a (λ q i e. omega arith);
  rest = λ a h. o.only a (λ q i e. omega arith);
}

-- a store past the head leaves the layout
pub store_laid : (m m' : List ℕ) (n a v : ℕ) → Laid m n → 2 ≤ a → Stored m m' a v → Laid m' n
store_laid m m' n a v l i s = laid_same m m' n l (stored_other s 0 (λ e. omega arith)) (stored_other s 1 (λ e. omega arith)) (stored_long s)

pub line_more : (m m₁ m₂ : List ℕ) (n k v : ℕ) → k < n → LineOnly m m₁ n → Stored m₁ m₂ (row k + 65) v → LineOnly m m₂ n
line_more m m₁ m₂ n k v i o s = record { long = stored_long s ∙ o.long; only = λ a f. stored_other s a (λ e. f k i e) ∙ o.only a f }

-- ---- what is noted ----

-- the walk from the top came to q, and the k places before q are noted
pub record Reached (m m' : List ℕ) (n top q k : ℕ) : Type 0 where
  pub long : length (walk (view_at m n).holdings top) ≡ k + length (walk (view_at m n).holdings q)
  pub rest : (d : ℕ) → get_or (walk (view_at m n).holdings top) (k + d) 0 ≡ get_or (walk (view_at m n).holdings q) d 0
  pub at : (d : ℕ) → d < k → word m' (row d + 65) ≡ get_or (walk (view_at m n).holdings top) d 0

pub record Noting (m m' : List ℕ) (n top q k : ℕ) : Type 0 where
  pub only : LineOnly m m' n
  pub low : q < n
  pub top_low : top < n
  pub laid : Laid m' n
  pub right : SoundAt m n → Reached m m' n top q k

head_is : (h : Holdings) (q : ℕ) (l : List ℕ) → walk h q ≡ q ∷ l → get_or (walk h q) 0 0 ≡ q
head_is h q l e = rw e

module _ (m m₁ m₂ : List ℕ) (n top q k : ℕ) (c : Noting m m₁ n top q k) (i : k < n) (st : Stored m₁ m₂ (row k + 65) q) where
  only_more : LineOnly m m₂ n
  only_more = line_more m m₁ m₂ n k q i c.only st

  -- what stands in memory, q being the first of its own walk
  at_more : SoundAt m n → (l : List ℕ) → walk (view_at m n).holdings q ≡ q ∷ l → (d : ℕ) → d < k + 1 → word m₂ (row d + 65) ≡ get_or (walk (view_at m n).holdings top) d 0
  at_more s l e d h =
      by_bool (eqb d k)
      (λ j. let z : d ≡ k = eqb-true d k j in rw z here)
      (λ j. let f : d ≡ k → ⊥ = eqb-false d k j in stored_other st (row d + 65) (λ g. f (omega arith)) ∙ (c.right s).at d (omega arith))
    where
      here : word m₂ (row k + 65) ≡ get_or (walk (view_at m n).holdings top) k 0
      here = let z : k + 0 ≡ k = omega arith in stored_same st (let f = c.laid.fits in omega arith) ∙ sym (head_is (view_at m n).holdings q l e) ∙ sym ((c.right s).rest 0) ∙ ap (λ (d : ℕ). get_or (walk (view_at m n).holdings top) d 0) z

  module _ (r : ℕ) (d : SoundAt m₂ n → parent (view_at m₂ n).holdings q ≡ placed n r) where
    next : SoundAt m n → parent (view_at m n).holdings q ≡ placed n r
    next s = let t = line_tree m m₂ n only_more in ap (λ (h : Holdings). parent h q) (sym (tree_holdings m m₂ n t)) ∙ d (tree_sound m m₂ n t s)

    pub noting_more : r < n → Noting m m₂ n top r (k + 1)
    noting_more l = record { only = only_more; low = l; top_low = c.top_low; laid = store_laid m₁ m₂ n (row k + 65) q c.laid (omega arith) st; right = more }
      where
        more : SoundAt m n → Reached m m₂ n top r (k + 1)
        more s =
            let e = walk_on (view_at m n).holdings q r (next s ∙ placed_in n r l) in
            let w = c.right s in record {
              long = w.long ∙ omega (arith, ap length e);
              rest = λ j. let z : k + 1 + j ≡ k + suc j = omega arith in ap (λ (d : ℕ). get_or (walk (view_at m n).holdings top) d 0) z ∙ w.rest (suc j) ∙ ap (λ (t : List ℕ). get_or t (suc j) 0) e;
              at = at_more s (walk (view_at m n).holdings r) e;
            }

    pub noting_done : n ≤ r → SoundAt m n → Lined m₂ n top (k + 1)
    noting_done l s =
        let e = walk_end (view_at m n).holdings q (next s ∙ placed_out n r l) in
        let g = w_long e in
        let v = tree_holdings m m₂ n (line_tree m m₂ n only_more) in record {
          long = rw v g;
          short = omega (arith, g, room_most m n top c.top_low);
          at = λ d h. rw v (at_more s [] e d h);
        }
      where
        w_long : walk (view_at m n).holdings q ≡ q ∷ [] → k + 1 ≡ length (walk (view_at m n).holdings top)
        w_long e = sym ((c.right s).long ∙ ap (λ (t : List ℕ). k + length t) e)

-- n places are noted and one is left: no walk is so long
pub noting_out : (m m' : List ℕ) (n top q k : ℕ) → Noting m m' n top q k → n ≤ k → SoundAt m n → Lined m' n top n
noting_out m m' n top q k c i s = absurd (omega (arith, (c.right s).long, walk_some (view_at m n).holdings q, room_most m n top c.top_low))
