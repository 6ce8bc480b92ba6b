-- A walk above a block, written block by block from its top down: what is left to write is the rest of it. What is written at a block may follow from what stood there:
-- a walk comes to each block once.
use mathlib.Core.Path.{◌≡◌, refl, sym, ap, ◌∙◌}
use mathlib.Core.Bool.{true, false}
use mathlib.Core.List.{List, [], ◌∷◌}
use mathlib.Core.Option.{none, some}
use Prim.Native.Nat.{ℕ, ◌+◌, ◌≤◌, ◌<◌}
use native.Mathlib.Omega.{arith}
use lib.Dec.{eqb, ltb}
use lib.ListN.{length}
use borrow.Author.Tests.{eqb-true, lt-ltb, le-ltb}
use Rattle.memory.specs.Layout.{Laid, row}
use Rattle.memory.specs.Words.{word}
use Rattle.model.specs.Holding.{Holdings, index_of, is_live}
use Rattle.model.specs.Lists.{elem, only}
use Rattle.model.specs.Places.{put_at}
use Rattle.model.specs.Standing.{parent}
use Rattle.model.specs.Walks.{walk}
use Rattle.model.proofs.ListLaws.{elem-only}
use Rattle.model.proofs.LocalWalk.{only_none}
use Rattle.model.proofs.Tools.{by_bool}
use Rattle.model.proofs.Turn.{parent-some}
use Rattle.model.proofs.WalkLaws.{parent_index, walk_index}
use Rattle.pending.specs.Pending.{PendOnly}
use Rattle.pending.proofs.NextLaws.{live_used}
use Rattle.pending.proofs.PendLaws.{pend_same, pend_then, pend_view}
use Rattle.pending.proofs.TurnLaws.{pend_sound, pend_cell}
use Rattle.state.specs.Sound.{SoundAt, placed}
use Rattle.state.specs.View.{cells_of, view_at}
use Rattle.state.proofs.FindLaws.{placed_in, placed_out}
use Rattle.walks.proofs.DownLaws.{walk_end, walk_on, walk_some, walk_less, room_most, index_word}
use Rattle.writing.specs.Coded.{Coded}
use Rattle.writing.specs.Steps.{Codes}
use Rattle.writing.proofs.CodeLaws.{coded_same}
use Rattle.extending.specs.Accepting.{above_in, written_above, Ends}

-- ---- in the model ----

module _ (h : Holdings) (f q : ℕ) where
  pub in_met : index_of (h.cells q) ≤ index_of (h.cells f) → above_in h f q ≡ []
  in_met i = only_none (λ x. ltb (index_of (h.cells f)) (index_of (h.cells x))) (walk h q) (λ x m. le-ltb (index_of (h.cells f)) (index_of (h.cells x)) (omega (arith, walk_index h q x m)))

  module _ (i : index_of (h.cells f) < index_of (h.cells q)) where
    pub in_end : parent h q ≡ none → above_in h f q ≡ q ∷ []
    unfolding only
    in_end e = rw (walk_end h q e, lt-ltb (index_of (h.cells f)) (index_of (h.cells q)) i)

    pub in_on : (r : ℕ) → parent h q ≡ some r → above_in h f q ≡ q ∷ above_in h f r
    unfolding only
    in_on r e = rw (walk_on h q r e, lt-ltb (index_of (h.cells f)) (index_of (h.cells q)) i)

  -- its parent's walk does not come back to it
  pub in_once : (r : ℕ) → parent h q ≡ some r → elem q (above_in h f r) ≡ false
  in_once r e = by_bool (elem q (above_in h f r)) (λ m. absurd (omega (arith, parent_index h q r e, walk_index h r q (elem-only (λ x. ltb (index_of (h.cells f)) (index_of (h.cells x))) q (walk h r) m).1))) (λ m. m)

-- ---- in a memory ----

pub view_cell : (m : List ℕ) (n q : ℕ) → (view_at m n).holdings.cells q ≡ cells_of m n q
unfolding view_at
view_cell m n q = refl

-- the blocks before q are written: with those that are above f on q's walk, they are all
pub record Reached (m₀ m : List ℕ) (n top f q steps : ℕ) (c : ℕ → ℕ → ℕ) : Type 0 where
  pub live : is_live (cells_of m₀ n q) ≡ true
  pub most : length (walk (view_at m₀ n).holdings q) + steps ≤ n
  pub codes : (g : ℕ → ℕ) → Coded m₀ n g → (k : ℕ → ℕ) × Coded m n k × ((x : ℕ) → written_above (view_at m₀ n).holdings f q c k x ≡ written_above (view_at m₀ n).holdings f top c g x)

pub record Writing (m₀ m : List ℕ) (n top f other q steps : ℕ) (c : ℕ → ℕ → ℕ) : Type 0 where
  pub only : PendOnly m₀ m n
  pub low : q < n
  pub right : SoundAt m₀ n → Ends m₀ n top f other → Reached m₀ m n top f q steps c

abbrev pub Answers : List ℕ → List ℕ → ℕ → ℕ → ℕ → ℕ → (ℕ → ℕ → ℕ) → Type 0
Answers m₀ m n top f other c = Codes m₀ m n (Ends m₀ n top f other) (written_above (view_at m₀ n).holdings f top c)

pub writing_start : (m : List ℕ) (n top f other : ℕ) (c : ℕ → ℕ → ℕ) → top < n → Writing m m n top f other top 0 c
writing_start m n top f other c i = record {
  only = pend_same m n;
  low = i;
  right = λ s v. record { live = v.first_live; most = omega (arith, room_most m n top i); codes = λ g k. (g, k, λ x. refl) };
}

module _ (m₀ m : List ℕ) (n top f other q steps : ℕ) (c : ℕ → ℕ → ℕ) (laid : Laid m₀ n) (f<n : f < n) (w : Writing m₀ m n top f other q steps c) where
  pub writing_out : n ≤ steps → Answers m₀ m n top f other c
  writing_out z = record { only = w.only; right = λ s v g k. absurd (omega (arith, (w.right s v).most, walk_some (view_at m₀ n).holdings q)) }

  -- the index of the block come to, and of the block above which it writes
  pub here_index : SoundAt m₀ n → Ends m₀ n top f other → index_of ((view_at m₀ n).holdings.cells q) ≡ word m (row q + 12)
  here_index s v = index_word m₀ n q w.low (live_used m₀ n q (w.right s v).live) ∙ sym (w.only.rows q 12 w.low (omega arith) (omega arith) (omega arith))

  low_index : Ends m₀ n top f other → index_of ((view_at m₀ n).holdings.cells f) ≡ word m₀ (row f + 12)
  low_index v = index_word m₀ n f f<n v.used

  pub writing_met : word m (row q + 12) ≤ word m₀ (row f + 12) → Answers m₀ m n top f other c
  unfolding elem
  writing_met t = record { only = w.only; right = λ s v g k. let y = (w.right s v).codes g k in coded_same m n y.0 (written_above (view_at m₀ n).holdings f top c g) (λ x i. none_left s v y.0 x ∙ y.2 x) y.1 }
    where
      none_left : SoundAt m₀ n → Ends m₀ n top f other → (k : ℕ → ℕ) (x : ℕ) → k x ≡ written_above (view_at m₀ n).holdings f q c k x
      none_left s v k x = rw (in_met (view_at m₀ n).holdings f q (omega (arith, here_index s v, low_index v)))

  module _ (m₂ : List ℕ) (t : word m₀ (row f + 12) < word m (row q + 12)) (b : ℕ) (st : Codes m m₂ n (is_live (cells_of m n q) ≡ true) (λ k. put_at k q b))
      (is : SoundAt m₀ n → Ends m₀ n top f other → (k : ℕ → ℕ) → Coded m n k → b ≡ c q (k q))
      (r : ℕ) (d : SoundAt m₂ n → parent (view_at m₂ n).holdings q ≡ placed n r) where
    pub after_only : PendOnly m₀ m₂ n
    after_only = pend_then m₀ m m₂ n w.only st.only

    higher : SoundAt m₀ n → Ends m₀ n top f other → index_of ((view_at m₀ n).holdings.cells f) < index_of ((view_at m₀ n).holdings.cells q)
    higher s v = omega (arith, here_index s v, low_index v)

    pub after_next : SoundAt m₀ n → parent (view_at m₀ n).holdings q ≡ placed n r
    after_next s = ap (λ v. parent v.holdings q) (sym (pend_view m₀ m₂ n after_only)) ∙ d (pend_sound m₀ m₂ n laid after_only s)

    written : SoundAt m₀ n → Ends m₀ n top f other → (k : ℕ → ℕ) → Coded m n k → Coded m₂ n (put_at k q b)
    written s v k y = st.right (pend_sound m₀ m n laid w.only s) (ap is_live (pend_cell m₀ m n laid w.only q) ∙ (w.right s v).live) k y

    pub writing_none : n ≤ r → Answers m₀ m₂ n top f other c
    unfolding elem
    writing_none l = record { only = after_only; right = λ s v g k. let y = (w.right s v).codes g k in coded_same m₂ n (put_at y.0 q b) (written_above (view_at m₀ n).holdings f top c g) (λ x i. last_one s v y.0 y.1 x ∙ y.2 x) (written s v y.0 y.1) }
      where
        last_one : SoundAt m₀ n → Ends m₀ n top f other → (k : ℕ → ℕ) → Coded m n k → (x : ℕ) → put_at k q b x ≡ written_above (view_at m₀ n).holdings f q c k x
        last_one s v k y x = rw (in_end (view_at m₀ n).holdings f q (higher s v) (after_next s ∙ placed_out n r l)) (by_bool (eqb x q) (λ e. rw (e, eqb-true x q e) (is s v k y)) (λ e. rw e))

    pub writing_more : r < n → Writing m₀ m₂ n top f other r (steps + 1) c
    unfolding elem
    writing_more l = record {
      only = after_only;
      low = l;
      right = λ s v.
          let e = after_next s ∙ placed_in n r l in
          let y = w.right s v in record {
            live = sym (ap is_live (view_cell m₀ n r)) ∙ (parent-some (view_at m₀ n).holdings q r e).1;
            most = omega (arith, y.most, walk_less (view_at m₀ n).holdings q r e);
            codes = λ g k. let u = y.codes g k in (put_at u.0 q b, written s v u.0 u.1, λ x. more s v e u.0 u.1 x ∙ u.2 x);
          };
    }
      where
        more : SoundAt m₀ n → Ends m₀ n top f other → parent (view_at m₀ n).holdings q ≡ some r → (k : ℕ → ℕ) → Coded m n k → (x : ℕ) → written_above (view_at m₀ n).holdings f r c (put_at k q b) x ≡ written_above (view_at m₀ n).holdings f q c k x
        more s v e k y x = rw (in_on (view_at m₀ n).holdings f q (higher s v) r e) (by_bool (eqb x q) (λ i. let z : x ≡ q = eqb-true x q i in let o : elem x (above_in (view_at m₀ n).holdings f r) ≡ false = ap (λ (p : ℕ). elem p (above_in (view_at m₀ n).holdings f r)) z ∙ in_once (view_at m₀ n).holdings f q r e in rw (i, o) (is s v k y ∙ ap (λ (p : ℕ). c p (k p)) (sym z))) (λ i. rw i))
