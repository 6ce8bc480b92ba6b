-- The fork of two walks, by steps down: what is left of the walks has the same fork, and each step takes a place off one of them.
use mathlib.Core.Path.{◌≡◌, refl, sym, ap, ◌∙◌}
use mathlib.Core.Bool.{false}
use mathlib.Core.List.{List}
use mathlib.Core.Option.{Option, none, some}
use Prim.Native.Nat.{ℕ, ◌+◌, ◌*◌, ◌≤◌, ◌<◌}
use native.Mathlib.Omega.{arith}
use lib.ListN.{length}
use borrow.Author.Tests.{ne_eqb}
use Rattle.memory.specs.Words.{word}
use Rattle.memory.specs.Layout.{row}
use Rattle.model.specs.Holding.{Holdings, index_of}
use Rattle.model.specs.Standing.{parent}
use Rattle.model.specs.Walks.{Asked, index, walk, fork}
use Rattle.model.specs.Select.{on}
use Rattle.model.proofs.Tools.{by_bool}
use Rattle.model.proofs.WalkLaws.{walk_index}
use Rattle.model.proofs.PlanCode.{step_to, fork_here, fork_left, fork_right, level}
use Rattle.state.specs.Sound.{SoundAt, Used, placed}
use Rattle.state.specs.View.{view_at}
use Rattle.state.proofs.FindLaws.{placed_in, placed_out}
use Rattle.walks.proofs.DownLaws.{walk_some, walk_less, room_most, parent_used, index_word}

-- the walks from p and q came down to x and y in k steps, and each step took a place off one of them
pub record Came (m : List ℕ) (n p q x y k : ℕ) : Type 0 where
  pub here : Used m x
  pub there : Used m y
  pub most : length (walk (view_at m n).holdings x) + length (walk (view_at m n).holdings y) + k ≤ 2 * n
  pub same : (a : Asked) → a.holdings ≡ (view_at m n).holdings → fork a p q ≡ fork a x y

pub record Coming (m : List ℕ) (n p q x y k : ℕ) : Type 0 where
  pub low : x < n
  pub low' : y < n
  pub right : SoundAt m n → Used m p → Used m q → Came m n p q x y k

-- what the loop answers
abbrev pub Answers : List ℕ → ℕ → ℕ → ℕ → ℕ → Type 0
Answers m n p q r = SoundAt m n → (a : Asked) → a.holdings ≡ (view_at m n).holdings → Used m p → Used m q → fork a p q ≡ placed n r

module _ (m : List ℕ) (n p q : ℕ) where
  pub fork_start : p < n → q < n → Coming m n p q p q 0
  fork_start i j = record { low = i; low' = j; right = λ s u v. record { here = u; there = v; most = omega (arith, room_most m n p i, room_most m n q j); same = λ a e. refl } }

  module _ (x y k : ℕ) (c : Coming m n p q x y k) where
    pub fork_met : x ≡ y → Answers m n p q x
    fork_met z s a e u v = (c.right s u v).same a e ∙ ap (fork a x) (sym z) ∙ fork_here a x ∙ sym (placed_in n x c.low)

    -- two walks have a place each
    pub fork_out : 2 * n ≤ k → Answers m n p q n
    fork_out z s a e u v = absurd (omega (arith, (c.right s u v).most, walk_some (view_at m n).holdings x, walk_some (view_at m n).holdings y))

    module _ (s : SoundAt m n) (u : Used m p) (v : Used m q) (a : Asked) (e : a.holdings ≡ (view_at m n).holdings) where
      index_x : index a x ≡ word m (row x + 12)
      index_x = ap (λ (h : Holdings). index_of (h.cells x)) e ∙ index_word m n x c.low (c.right s u v).here

      index_y : index a y ≡ word m (row y + 12)
      index_y = ap (λ (h : Holdings). index_of (h.cells y)) e ∙ index_word m n y c.low' (c.right s u v).there

      -- y is higher, and a step down from it leaves the fork
      right_step : word m (row x + 12) < word m (row y + 12) → (o : Option ℕ) → parent (view_at m n).holdings y ≡ o → fork a p q ≡ step_to none (λ r. fork a x r) o
      right_step i o d = (c.right s u v).same a e ∙ fork_right a x y (omega (arith, index_x, index_y)) ∙ ap (step_to none (λ r. fork a x r)) (ap (λ (h : Holdings). parent h y) e ∙ d)

      -- it is not, and so x is not on its walk
      off : (x ≡ y → ⊥) → (word m (row x + 12) < word m (row y + 12) → ⊥) → on a y x ≡ false
      off ne i = by_bool (on a y x) (λ o. level a x y (omega (arith, index_x, index_y, walk_index a.holdings y x o)) (ne_eqb x y ne)) (λ o. o)

      left_step : (x ≡ y → ⊥) → (word m (row x + 12) < word m (row y + 12) → ⊥) → (o : Option ℕ) → parent (view_at m n).holdings x ≡ o → fork a p q ≡ step_to none (λ r. fork a r y) o
      left_step ne i o d = (c.right s u v).same a e ∙ fork_left a x y (off ne i) ∙ ap (step_to none (λ r. fork a r y)) (ap (λ (h : Holdings). parent h x) e ∙ d)

    module _ (r : ℕ) (i : word m (row x + 12) < word m (row y + 12)) (d : SoundAt m n → parent (view_at m n).holdings y ≡ placed n r) where
      pub right_none : n ≤ r → Answers m n p q n
      right_none l s a e u v = right_step s u v a e i none (d s ∙ placed_out n r l) ∙ sym (placed_out n n (omega arith))

      pub right_more : r < n → Coming m n p q x r (k + 1)
      right_more l = record {
        low = c.low;
        low' = l;
        right = λ s u v. let f = d s ∙ placed_in n r l in let w = c.right s u v in record {
          here = w.here;
          there = parent_used m n y r f;
          most = omega (arith, w.most, walk_less (view_at m n).holdings y r f);
          same = λ a e. right_step s u v a e i (some r) f;
        };
      }

    module _ (r : ℕ) (ne : x ≡ y → ⊥) (i : word m (row x + 12) < word m (row y + 12) → ⊥) (d : SoundAt m n → parent (view_at m n).holdings x ≡ placed n r) where
      pub left_none : n ≤ r → Answers m n p q n
      left_none l s a e u v = left_step s u v a e ne i none (d s ∙ placed_out n r l) ∙ sym (placed_out n n (omega arith))

      pub left_more : r < n → Coming m n p q r y (k + 1)
      left_more l = record {
        low = l;
        low' = c.low';
        right = λ s u v. let f = d s ∙ placed_in n r l in let w = c.right s u v in record {
          here = parent_used m n x r f;
          there = w.there;
          most = omega (arith, w.most, walk_less (view_at m n).holdings x r f);
          same = λ a e. left_step s u v a e ne i (some r) f;
        };
      }
