-- The highest block of a walk that is no higher than an index: by steps down, and from one index to a lower one.
use mathlib.Core.Path.{◌≡◌, refl, sym, ap, ◌∙◌}
use mathlib.Core.Bool.{true}
use mathlib.Core.List.{List}
use mathlib.Core.Option.{Option, none, some}
use Prim.Native.Nat.{ℕ, ◌+◌, ◌≤◌, ◌<◌}
use native.Mathlib.Omega.{arith}
use lib.Dec.{ltb, leb}
use lib.ListN.{length}
use borrow.Author.Tests.{eq-eqb, ne_eqb, leb-true, leb-false, le-leb, lt-leb, ltb-true, ltb-false}
use Rattle.memory.specs.Layout.{row}
use Rattle.memory.specs.Words.{word}
use Rattle.model.specs.Holding.{Holdings, index_of, is_live}
use Rattle.model.specs.Lists.{elem}
use Rattle.model.specs.Standing.{parent}
use Rattle.model.specs.Walks.{walk, onward}
use Rattle.model.proofs.ListLaws.{elem_cases, elem-find, elem_nil}
use Rattle.model.proofs.PlanCode.{find_step}
use Rattle.model.proofs.Tools.{by_bool, by_option}
use Rattle.model.proofs.Turn.{parent-some}
use Rattle.model.proofs.WalkLaws.{walk_is, walk_index, parent_index, upward}
use Rattle.pending.proofs.NextLaws.{live_used}
use Rattle.state.specs.Sound.{SoundAt, placed}
use Rattle.state.specs.View.{cells_of, view_at}
use Rattle.state.proofs.FindLaws.{placed_in, placed_out}
use Rattle.walks.proofs.DownLaws.{walk_some, walk_less, room_most, index_word}
use Rattle.extending.specs.Accepting.{level_of, level_from, rival_code}
use Rattle.extending.proofs.AboveLaws.{view_cell}

-- ---- in the model ----

module _ (h : Holdings) where
  pub level_here : (i p : ℕ) → index_of (h.cells p) ≤ i → level_of h i p ≡ some p
  level_here i p l = find_step h (λ x. leb (index_of (h.cells x)) i) p ∙ rw (le-leb (index_of (h.cells p)) i l)

  pub level_step : (i p : ℕ) → i < index_of (h.cells p) → level_of h i p ≡ level_from h i (parent h p)
  level_step i p l = find_step h (λ x. leb (index_of (h.cells x)) i) p ∙ rw (lt-leb (index_of (h.cells p)) i l) (by_option (parent h p) (λ e. rw e) (λ q e. rw e))

  -- at a lower index, it may be sought from where it was
  pub level_lower : (i j : ℕ) → i ≤ j → (p : ℕ) → level_of h i p ≡ level_from h i (level_of h j p)
  level_lower i j l = upward h (λ p. level_of h i p ≡ level_from h i (level_of h j p)) (λ p ih. by_bool (leb (index_of (h.cells p)) j) (λ b. rw (level_here j p (leb-true (index_of (h.cells p)) j b))) (λ b. let z : j < index_of (h.cells p) = leb-false (index_of (h.cells p)) j b in rw (level_step j p z, level_step i p (omega arith)) (by_option (parent h p) (λ e. rw e) (λ q e. rw e (ih q e)))))

  pub level_again : (i j : ℕ) → i ≤ j → (o : Option ℕ) → level_from h i o ≡ level_from h i (level_from h j o)
  level_again i j l none = refl
  level_again i j l (some p) = level_lower i j l p

  -- a block of the walk is the one at its own index
  pub level_at : (x p : ℕ) → elem x (walk h p) ≡ true → level_of h (index_of (h.cells x)) p ≡ some x
  level_at x = upward h (λ p. elem x (walk h p) ≡ true → level_of h (index_of (h.cells x)) p ≡ some x) (λ p ih e. elem_cases x p (onward (walk h) (parent h p)) (rw (walk_is h p) at e)
      (λ z. rw (← z) (level_here (index_of (h.cells x)) x (omega arith)))
      (λ m. by_option (parent h p) (λ n. elem_nil x (rw n at m)) (λ q n. let k : elem x (walk h q) ≡ true = rw n at m in level_step (index_of (h.cells x)) p (omega (arith, walk_index h q x k, parent_index h p q n)) ∙ rw n (ih q n k))))

  pub level_on : (i p x : ℕ) → level_of h i p ≡ some x → elem x (walk h p) ≡ true
  level_on i p x e = (elem-find (λ y. leb (index_of (h.cells y)) i) x (walk h p) e).1

-- ---- in a memory: the search ----

pub record Reached (m : List ℕ) (n s i q steps : ℕ) : Type 0 where
  pub live : q < n → is_live (cells_of m n q) ≡ true
  pub most : q < n → length (walk (view_at m n).holdings q) + steps ≤ n
  pub from : level_from (view_at m n).holdings i (placed n s) ≡ level_from (view_at m n).holdings i (placed n q)

abbrev pub Searching : List ℕ → ℕ → ℕ → ℕ → ℕ → ℕ → Type 0
Searching m n s i q steps = SoundAt m n → (s < n → is_live (cells_of m n s) ≡ true) → Reached m n s i q steps

abbrev pub Answers : List ℕ → ℕ → ℕ → ℕ → ℕ → Type 0
Answers m n s i r = SoundAt m n → (s < n → is_live (cells_of m n s) ≡ true) → level_from (view_at m n).holdings i (placed n s) ≡ placed n r

module _ (m : List ℕ) (n s i : ℕ) where
  pub level_start : Searching m n s i s 0
  level_start k v = record { live = v; most = λ l. omega (arith, room_most m n s l); from = refl }

  module _ (q steps : ℕ) (c : Searching m n s i q steps) where
    pub level_none : n ≤ q → Answers m n s i n
    level_none l k v = (c k v).from ∙ rw (placed_out n q l) (sym (placed_out n n (omega arith)))

    pub level_out : n ≤ steps → Answers m n s i n
    level_out z k v = by_bool (ltb q n) (λ b. absurd (omega (arith, (c k v).most (ltb-true q n b), walk_some (view_at m n).holdings q))) (λ b. level_none (ltb-false q n b) k v)

    module _ (q<n : q < n) where
      here : SoundAt m n → (s < n → is_live (cells_of m n s) ≡ true) → index_of ((view_at m n).holdings.cells q) ≡ word m (row q + 12)
      here k v = index_word m n q q<n (live_used m n q ((c k v).live q<n))

      pub level_met : word m (row q + 12) ≤ i → Answers m n s i q
      level_met l k v = (c k v).from ∙ rw (placed_in n q q<n) (level_here (view_at m n).holdings i q (omega (arith, here k v)))

      pub level_more : (r : ℕ) → i < word m (row q + 12) → (SoundAt m n → parent (view_at m n).holdings q ≡ placed n r) → Searching m n s i r (steps + 1)
      level_more r l d k v =
          let w = c k v in record {
            live = λ j. let e = d k ∙ placed_in n r j in sym (ap is_live (view_cell m n r)) ∙ (parent-some (view_at m n).holdings q r e).1;
            most = λ j. omega (arith, w.most q<n, walk_less (view_at m n).holdings q r (d k ∙ placed_in n r j));
            from = w.from ∙ ap (level_from (view_at m n).holdings i) (placed_in n q q<n) ∙ level_step (view_at m n).holdings i q (omega (arith, here k v)) ∙ ap (level_from (view_at m n).holdings i) (d k);
          }

-- ---- the code by it ----

module _ (m : List ℕ) (n s i : ℕ) where
  pub rival_none : n ≤ s → 6 ≡ rival_code (view_at m n).holdings i (placed n s)
  rival_none l = rw (placed_out n s l)

  module _ (s<n : s < n) (v : s < n → is_live (cells_of m n s) ≡ true) where
    index_here : index_of ((view_at m n).holdings.cells s) ≡ word m (row s + 12)
    index_here = index_word m n s s<n (live_used m n s (v s<n))

    pub rival_same : word m (row s + 12) ≡ i → 7 + s ≡ rival_code (view_at m n).holdings i (placed n s)
    rival_same e = rw (placed_in n s s<n, eq-eqb (index_of ((view_at m n).holdings.cells s)) i (index_here ∙ e))

    pub rival_other : (word m (row s + 12) ≡ i → ⊥) → 6 ≡ rival_code (view_at m n).holdings i (placed n s)
    rival_other e = rw (placed_in n s s<n, ne_eqb (index_of ((view_at m n).holdings.cells s)) i (λ z. e (sym index_here ∙ z)))
