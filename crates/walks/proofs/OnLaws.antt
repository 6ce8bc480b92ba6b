-- Whether a place is on a walk that is noted: indexes fall by one at each step, so a place stands at the distance of its index from the top's, or nowhere.
use mathlib.Core.Path.{◌≡◌, sym, ◌∙◌}
use mathlib.Core.Bool.{true, false}
use mathlib.Core.List.{List, [], ◌∷◌}
use mathlib.Core.Option.{some}
use Prim.Native.Nat.{ℕ, zero, suc, ◌+◌, ◌-◌, ◌≤◌, ◌<◌}
use native.Mathlib.Omega.{arith}
use lib.ListN.{length, get_or}
use lib.Dec.{eqb}
use borrow.Author.Tests.{eqb-true, eqb-false}
use Rattle.memory.specs.Words.{word}
use Rattle.memory.specs.Layout.{row}
use Rattle.model.specs.Lists.{elem}
use Rattle.model.specs.Holding.{Holdings, index_of}
use Rattle.model.specs.Standing.{parent}
use Rattle.model.specs.Walks.{walk, onward}
use Rattle.model.proofs.Tools.{by_bool, by_option}
use Rattle.model.proofs.ListLaws.{elem_nil, elem_head, elem_cases}
use Rattle.model.proofs.WalkLaws.{parent_index, walk_is, walk_index, upward}
use Rattle.state.specs.Sound.{SoundAt, Used}
use Rattle.state.specs.View.{view_at}
use Rattle.standing.proofs.ParentLaws.{parent_free}
use Rattle.state.proofs.FindLaws.{placed_out}
use Rattle.walks.specs.Walked.{Lined}
use Rattle.walks.proofs.DownLaws.{walk_end, walk_on, index_word}

-- ---- lists ----

elem_at : (l : List ℕ) (d : ℕ) → d < length l → elem (get_or l d 0) l ≡ true
unfolding elem
elem_at [] d h = absurd (omega arith)
elem_at (x ∷ l) zero h = elem_head x l
elem_at (x ∷ l) (suc d) h = by_bool (eqb (get_or l d 0) x) (λ e. rw e) (λ e. rw e (elem_at l d (omega arith)))

-- ---- in the model ----

-- p's walk has x at the distance d
pub record Stands (h : Holdings) (p x d : ℕ) : Type 0 where
  pub short : d < length (walk h p)
  pub is : get_or (walk h p) d 0 ≡ x

module _ (h : Holdings) where
  stands_top : (p x : ℕ) → x ≡ p → Stands h p x (index_of (h.cells p) - index_of (h.cells x))
  stands_top p x z = rw z (let y : index_of (h.cells p) - index_of (h.cells p) ≡ 0 = omega arith in rw y top)
    where
      top : Stands h p p 0
      top = record { short = rw (walk_is h p) (omega arith); is = rw (walk_is h p) }

  stands_on : (p q x : ℕ) → parent h p ≡ some q → elem x (walk h q) ≡ true → Stands h q x (index_of (h.cells q) - index_of (h.cells x)) → Stands h p x (index_of (h.cells p) - index_of (h.cells x))
  stands_on p q x n e s =
      let z : index_of (h.cells p) - index_of (h.cells x) ≡ suc (index_of (h.cells q) - index_of (h.cells x)) = omega (arith, parent_index h p q n, walk_index h q x e) in
      let w = walk_on h p q n in
      record { short = rw (z, w) (omega (arith, s.short)); is = rw (z, w) s.is }

  pub walk_stands : (p x : ℕ) → elem x (walk h p) ≡ true → Stands h p x (index_of (h.cells p) - index_of (h.cells x))
  walk_stands = upward h (λ p. (x : ℕ) → elem x (walk h p) ≡ true → Stands h p x (index_of (h.cells p) - index_of (h.cells x)))
      (λ p ih x e. elem_cases x p (onward (walk h) (parent h p)) (rw (walk_is h p) at e) (stands_top p x)
      (λ m. by_option (parent h p) (λ n. elem_nil x (rw n at m)) (λ q n. let f : elem x (walk h q) ≡ true = rw n at m in stands_on p q x n f (ih q n x f))))

-- ---- in a memory ----

module _ (m : List ℕ) (n top k q : ℕ) (i : top < n) (j : q < n) where
  -- a place that is on the walk: no higher than the top, and noted at its distance
  pub record Noted : Type 0 where
    pub low : word m (row q + 12) ≤ word m (row top + 12)
    pub short : word m (row top + 12) - word m (row q + 12) < k
    pub is : word m (row (word m (row top + 12) - word m (row q + 12)) + 65) ≡ q

  module _ (s : SoundAt m n) (u : Used m q) (l : Lined m n top k) where
    -- a top without room is alone on its walk
    top_used : elem q (walk (view_at m n).holdings top) ≡ true → Used m top
    top_used e = by_bool (eqb (word m (row top)) 1) (λ t. eqb-true (word m (row top)) 1 t) (λ t. absurd (alone (eqb-false (word m (row top)) 1 t)))
      where
        alone : (Used m top → ⊥) → ⊥
        alone f =
            let w = walk_end (view_at m n).holdings top (parent_free m n top i f ∙ placed_out n n (omega arith)) in
            elem_cases q top [] (rw w at e) (λ z. f (rw z at u)) (λ x. elem_nil q x)

    on_noted : elem q (walk (view_at m n).holdings top) ≡ true → Noted
    on_noted e = record { low = omega (arith, a, b, walk_index (view_at m n).holdings top q e); short = short; is = l.at (word m (row top + 12) - word m (row q + 12)) short ∙ sym d_is ∙ st.is }
      where
        a : index_of ((view_at m n).holdings.cells top) ≡ word m (row top + 12)
        a = index_word m n top i (top_used e)

        b : index_of ((view_at m n).holdings.cells q) ≡ word m (row q + 12)
        b = index_word m n q j u

        st : Stands (view_at m n).holdings top q (index_of ((view_at m n).holdings.cells top) - index_of ((view_at m n).holdings.cells q))
        st = walk_stands (view_at m n).holdings top q e

        d_is : get_or (walk (view_at m n).holdings top) (index_of ((view_at m n).holdings.cells top) - index_of ((view_at m n).holdings.cells q)) 0 ≡ get_or (walk (view_at m n).holdings top) (word m (row top + 12) - word m (row q + 12)) 0
        d_is = rw (a, b)

        short : word m (row top + 12) - word m (row q + 12) < k
        short = omega (arith, a, b, st.short, l.long)

    off : (Noted → ⊥) → false ≡ elem q (walk (view_at m n).holdings top)
    off f = by_bool (elem q (walk (view_at m n).holdings top)) (λ e. absurd (f (on_noted e))) sym

    pub on_higher : word m (row top + 12) < word m (row q + 12) → false ≡ elem q (walk (view_at m n).holdings top)
    on_higher h = off (λ x. omega (arith, x.low))

    pub on_past : k ≤ word m (row top + 12) - word m (row q + 12) → false ≡ elem q (walk (view_at m n).holdings top)
    on_past h = off (λ x. omega (arith, x.short))

    pub on_at : word m (row top + 12) - word m (row q + 12) < k → eqb (word m (row (word m (row top + 12) - word m (row q + 12)) + 65)) q ≡ elem q (walk (view_at m n).holdings top)
    on_at h = by_bool (eqb (word m (row (word m (row top + 12) - word m (row q + 12)) + 65)) q) (λ t. t ∙ sym (there (eqb-true _ q t))) (λ t. t ∙ off (λ x. eqb-false _ q t x.is))
      where
        there : word m (row (word m (row top + 12) - word m (row q + 12)) + 65) ≡ q → elem q (walk (view_at m n).holdings top) ≡ true
        there z = let y = sym (l.at (word m (row top + 12) - word m (row q + 12)) h) ∙ z in rw y at (elem_at (walk (view_at m n).holdings top) (word m (row top + 12) - word m (row q + 12)) (omega (arith, l.long)))
