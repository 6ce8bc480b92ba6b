-- From the fork on: held back, not going on, or a switch.
use mathlib.Core.Path.{◌≡◌, sym, ◌∙◌}
use mathlib.Core.Bool.{Bool, true, false, not}
use mathlib.Core.List.{List}
use mathlib.Core.Option.{Option, some}
use Prim.Native.Nat.{ℕ}
use Rattle.model.specs.Lists.{any}
use Rattle.model.specs.Walks.{Asked, fork}
use Rattle.model.specs.Select.{on, aside, held_back, goes_on, select_at}
use Rattle.state.specs.Sound.{Used}
use Rattle.state.specs.View.{view_at}
use Rattle.walks.specs.Asking.{Asks}
use Rattle.writing.specs.Decides.{decided_changed}
use Rattle.writing.specs.declared.Decided.{Decided}
use Rattle.selecting.specs.Selected.{counted, IsStray, Tips, Stops, Switches, Resolves}
use Rattle.selecting.proofs.SwitchLaws.{switch_settles}
use Rattle.selecting.proofs.TipLaws.{tips_used, fork_used}

module _ (m m' : List ℕ) (n : ℕ) (floor : Option ℕ) (per top local f : ℕ) (stray demoted : Bool) (x : Decided) where
  module _ (r : Bool) (told : Used m top → Used m local → Used m f → (a : Asked) → Asks a m n floor per → any (λ p. not (on a top p)) (aside a local) ≡ stray → r ≡ held_back a top local f) where
    held_is : (a : Asked) → Tips a m n floor per top local → fork a top local ≡ some f → IsStray a top local stray → held_back a top local f ≡ r
    held_is a t e i = sym (told (tips_used a m n floor per top local t top t.top_live) (tips_used a m n floor per top local t local t.local_live) (fork_used a m n floor per top local t f e) a t.asks i)

    pub resolves_held : r ≡ true → Stops m m' n top stray demoted x → Resolves m m' n floor per top local f stray demoted x
    unfolding select_at
    resolves_held z s = record { only = s.only; right = λ a t e k i d. let w = held_is a t e i ∙ z in rw w (s.right floor per local a t k i d) }

    module _ (z : r ≡ false) (g : Bool)
        (going : Used m top → Used m local → (a : Asked) → a.holdings ≡ (view_at m n).holdings → a.values ≡ (view_at m n).values → any (λ p. not (on a top p)) (aside a local) ≡ stray → g ≡ goes_on a top local f) where
      goes_is : (a : Asked) → Tips a m n floor per top local → IsStray a top local stray → goes_on a top local f ≡ g
      goes_is a t i = sym (going (tips_used a m n floor per top local t top t.top_live) (tips_used a m n floor per top local t local t.local_live) a t.asks.holdings t.asks.values i)

      pub resolves_stopped : g ≡ false → Stops m m' n top stray demoted x → Resolves m m' n floor per top local f stray demoted x
      unfolding select_at
      resolves_stopped y s = record { only = s.only; right = λ a t e k i d. let w = held_is a t e i ∙ z in let v = goes_is a t i ∙ y in rw (w, v) (s.right floor per local a t k i d) }

      pub resolves_switched : g ≡ true → Switches m m' n top local f stray → decided_changed x ≡ some (counted true) → Resolves m m' n floor per top local f stray demoted x
      unfolding select_at
      resolves_switched y s c = record {
        only = s.only;
        right = λ a t e k i d. let w = held_is a t e i ∙ z in let v = goes_is a t i ∙ y in rw (w, v) (switch_settles a m' n top local f x c (s.right floor per a t e k i));
      }
