-- What Select is asked with holds on as its steps go, and what it gives: the room, and that both tips and their fork are places in use.
use mathlib.Core.Path.{◌≡◌, sym, ap, ◌∙◌}
use mathlib.Core.Bool.{true}
use mathlib.Core.List.{List}
use mathlib.Core.Option.{Option, some}
use Prim.Native.Nat.{ℕ}
use Rattle.model.specs.Numbers.{State}
use Rattle.model.specs.Holding.{Holdings, is_live}
use Rattle.model.specs.Walks.{Asked, fork}
use Rattle.model.proofs.WalkLaws.{walk_live}
use Rattle.model.proofs.PlanCode.{fork-on}
use Rattle.state.specs.Sound.{Used}
use Rattle.state.specs.View.{view_at}
use Rattle.state.proofs.TreeSteps.{tree_sound}
use Rattle.pending.proofs.NextLaws.{live_used}
use Rattle.writing.specs.Planned.{PlanOnly}
use Rattle.selecting.specs.Selected.{Tips}
use Rattle.turning.proofs.FrameLaws.{plan_tree, plan_view}

module _ (a : Asked) (m : List ℕ) (n : ℕ) (floor : Option ℕ) (per top local : ℕ) (t : Tips a m n floor per top local) where
  pub tips_then : (m' : List ℕ) → PlanOnly m m' n → Tips a m' n floor per top local
  tips_then m' o = record {
    sound = tree_sound m m' n (plan_tree m m' n o) t.sound;
    asks = record {
      holdings = t.asks.holdings ∙ ap (λ (s : State). s.holdings) (sym (plan_view m m' n o));
      values = t.asks.values ∙ ap (λ (s : State). s.values) (sym (plan_view m m' n o));
      floor_is = t.asks.floor_is;
      per_is = t.asks.per_is;
    };
    top_live = t.top_live;
    local_live = t.local_live;
    off_is = t.off_is;
  }

  pub tips_room : a.holdings.room ≡ n
  unfolding view_at
  tips_room = ap (λ (h : Holdings). h.room) t.asks.holdings

  pub tips_live : (p : ℕ) → is_live (a.holdings.cells p) ≡ true → is_live ((view_at m n).holdings.cells p) ≡ true
  tips_live p e = ap (λ (h : Holdings). is_live (h.cells p)) (sym t.asks.holdings) ∙ e

  pub tips_used : (p : ℕ) → is_live (a.holdings.cells p) ≡ true → Used m p
  unfolding view_at
  tips_used p e = live_used m n p (tips_live p e)

  pub fork_used : (f : ℕ) → fork a top local ≡ some f → Used m f
  fork_used f e = tips_used f (walk_live a.holdings top f t.top_live (fork-on a top local f e).1)
