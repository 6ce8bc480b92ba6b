-- Select, of a whole memory that a sync covers: what its tips are, and that it decides as the model does.
use mathlib.Core.Path.{◌≡◌, ap, ◌∙◌}
use mathlib.Core.Bool.{true}
use mathlib.Core.List.{List}
use mathlib.Core.Option.{Option, none, some}
use Prim.Native.Nat.{ℕ, ◌+◌, ◌≤◌, ◌<◌}
use native.Mathlib.Omega.{arith}
use borrow.Author.Tests.{eq-eqb}
use Rattle.memory.specs.Words.{word}
use Rattle.memory.specs.Layout.{Laid, nodes}
use Rattle.model.specs.Holding.{Holdings, is_live}
use Rattle.model.specs.Standing.{Spine, winner, canonical, Values, best}
use Rattle.model.specs.Walks.{Asked}
use Rattle.model.specs.Writes.{Plan, scan}
use Rattle.model.specs.Select.{select, select_from}
use Rattle.model.proofs.WalkLaws.{Upheld}
use Rattle.model.proofs.Upheld.{upheld}
use Rattle.model.proofs.Switched.{off_is}
use Rattle.state.specs.Sound.{placed}
use Rattle.state.specs.View.{view_at}
use Rattle.state.proofs.FindLaws.{placed_in, placed_out}
use Rattle.relink.specs.Treed.{Listless}
use Rattle.relink.proofs.TreedLaws.{listless_same}
use Rattle.asking.specs.Whole.{WholeAt}
use Rattle.asking.specs.Within.{Top}
use Rattle.walks.specs.Asking.{Asks}
use Rattle.writing.specs.Decides.{Decides}
use Rattle.writing.specs.Planned.{PlanOnly}
use Rattle.writing.specs.declared.Decided.{Decided}
use Rattle.writing.specs.declared.Decided.TheVariants.{Scan}
use Rattle.writing.proofs.ScratchLaws.{plan_scratch}
use Rattle.writing.proofs.UserLaws.{idle_coded}
use Rattle.deciding.specs.Plots.{Plots}
use Rattle.selecting.specs.Selected.{Tips, Settles, Selects}
use Rattle.turning.proofs.FrameLaws.{plan_same}
use Rattle.selecting.proofs.SettleLaws.{scan_settles}

module _ (m : List ℕ) (n : ℕ) (floor : Option ℕ) (per : ℕ) (w : WholeAt m n) (fresh : word m 7 ≡ 1) (a : Asked) (k : Asks a m n floor per) where
  best_of_lem : (s : Spine) (p : ℕ) → Top s m n p → best a.holdings (a.values s) ≡ placed n p
  unfolding view_at
  best_of_lem s p t = ap (λ (h : Holdings). best h (a.values s)) k.holdings ∙ ap (λ (v : Values). best (view_at m n).holdings (v s)) k.values ∙ t.best_is

  live_of : (s : Spine) (p : ℕ) → p < n → Top s m n p → is_live (a.holdings.cells p) ≡ true
  unfolding view_at
  live_of s p l t = ap (λ (h : Holdings). is_live (h.cells p)) k.holdings ∙ t.live l

  upheld_of : (s : Spine) → Upheld a.holdings s (a.values s)
  unfolding view_at
  upheld_of s = rw (k.holdings, k.values) (upheld w.run (eq-eqb (word m 7) 1 fresh) s)

  tips_of : (top local : ℕ) → top < n → local < n → Top winner m n top → Top canonical m n local → Tips a m n floor per top local
  unfolding view_at
  tips_of top local i j t u = record {
    sound = w.sound;
    asks = k;
    top_live = live_of winner top i t;
    local_live = live_of canonical local j u;
    off_is = λ q h. off_is a (upheld_of canonical) local (best_of_lem canonical local u ∙ placed_in n local j) q (room q h);
  }
    where
      room : (q : ℕ) → q < n → q < a.holdings.room
      room q h = let z : a.holdings.room ≡ n = ap (λ (h : Holdings). h.room) k.holdings in omega (arith, z)

  -- ---- what is decided ----

  pub decides : (p : Plan) (m' : List ℕ) (x : Decided) → Settles p a m' n x → Decides p m m' n a.clock x
  decides p m' x s = record { changed = s.changed; planned = record { codes = s.codes; coded = s.coded; meant = let z : a.holdings ≡ (view_at m n).holdings = k.holdings in rw z at s.meant } }

  pub scan_decides : select a ≡ scan → Decides (select a) m m n a.clock Scan
  scan_decides e = let z = e in rw z (decides scan m Scan (scan_settles a m n (idle_coded m n w.idle)))

  -- no best; no canonical best
  pub none_winner : (top : ℕ) → n ≤ top → Top winner m n top → select a ≡ scan
  unfolding select select_from
  none_winner top l t = let z : best a.holdings (a.values winner) ≡ none = best_of_lem winner top t ∙ placed_out n top l in rw z

  pub none_canonical : (top local : ℕ) → top < n → n ≤ local → Top winner m n top → Top canonical m n local → select a ≡ scan
  unfolding select select_from
  none_canonical top local i l t u =
      let z : best a.holdings (a.values winner) ≡ some top = best_of_lem winner top t ∙ placed_in n top i in
      let y : best a.holdings (a.values canonical) ≡ none = best_of_lem canonical local u ∙ placed_out n local l in
      rw (z, y)

  pub both_decides : (m' : List ℕ) (top local : ℕ) (x : Decided) → top < n → local < n → Top winner m n top → Top canonical m n local → Selects m m' n floor per top local x → Decides (select a) m m' n a.clock x
  unfolding select
  both_decides m' top local x i j t u s =
      let z : best a.holdings (a.values winner) ≡ some top = best_of_lem winner top t ∙ placed_in n top i in
      let y : best a.holdings (a.values canonical) ≡ some local = best_of_lem canonical local u ∙ placed_in n local j in
      rw (z, y) (decides (select_from a (some top) (some local)) m' x (s.right a (tips_of top local i j t u) (idle_coded m n w.idle)))

-- ---- the function ----

plan_listless : (m m' : List ℕ) (n : ℕ) → Laid m n → PlanOnly m m' n → WholeAt m n → Listless m' n
plan_listless m m' n laid o w =
    listless_same m m' n laid (λ q h. o.rows q 63 h (omega arith) (λ e. omega arith) (λ e. omega arith) (λ e. omega arith)) (λ j h. o.after (nodes n 4 + j) (omega arith)) w.treed.listless

module _ (m : List ℕ) (n : ℕ) (floor : Option ℕ) (per : ℕ) (laid : Laid m n) (top : ℕ) (best_is : WholeAt m n → word m 7 ≡ 1 → Top winner m n top) where
  pub plots_none : n ≤ top → Plots select m m n floor per Scan
  plots_none l = record {
    only = plan_scratch m m n (plan_same m n);
    listless = λ w fresh. w.treed.listless;
    right = λ w fresh a k. scan_decides m n floor per w fresh a k (none_winner m n floor per w fresh a k top l (best_is w fresh));
  }

  module _ (i : top < n) (local : ℕ) (local_is : WholeAt m n → word m 7 ≡ 1 → Top canonical m n local) where
    pub plots_bare : n ≤ local → Plots select m m n floor per Scan
    plots_bare l = record {
      only = plan_scratch m m n (plan_same m n);
      listless = λ w fresh. w.treed.listless;
      right = λ w fresh a k. scan_decides m n floor per w fresh a k (none_canonical m n floor per w fresh a k top local i l (best_is w fresh) (local_is w fresh));
    }

    pub plots_both : (m' : List ℕ) (x : Decided) → local < n → Selects m m' n floor per top local x → Plots select m m' n floor per x
    plots_both m' x j s = record {
      only = plan_scratch m m' n s.only;
      listless = λ w fresh. plan_listless m m' n laid s.only w;
      right = λ w fresh a k. both_decides m n floor per w fresh a k m' top local x i j (best_is w fresh) (local_is w fresh) s;
    }
