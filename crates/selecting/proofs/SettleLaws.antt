-- From both tips on: what is marked, and what the marks tell.
use mathlib.Core.Path.{◌≡◌, refl, sym, ap, ◌∙◌}
use mathlib.Core.Bool.{Bool, true, false, not, ◌&&◌}
use mathlib.Core.List.{List, []}
use mathlib.Core.Option.{Option, some}
use Prim.Native.Nat.{ℕ, suc, ◌+◌, ◌≤◌, ◌<◌}
use lib.Dec.{eqb}
use Rattle.amount.specs.Choose.{◌if◌else◌}
use Rattle.memory.specs.Words.{word}
use Rattle.memory.specs.Layout.{row}
use Rattle.model.specs.Places.{first, is_some}
use Rattle.model.specs.Lists.{elem, only, each, is_empty}
use Rattle.model.specs.Holding.{Holdings, index_of}
use Rattle.model.specs.Standing.{canonical_count}
use Rattle.model.specs.Walks.{Asked, index, is_canon, fork, under}
use Rattle.model.specs.Writes.{scan}
use Rattle.model.specs.Select.{on, off, aside, select_at, select_from}
use Rattle.model.proofs.Tools.{and_right, not_is, not_is_true}
use Rattle.model.proofs.ListLaws.{elem_none}
use Rattle.state.specs.Sound.{SoundAt, Used, placed}
use Rattle.state.specs.View.{view_at}
use Rattle.state.proofs.FindLaws.{placed_in, placed_out}
use Rattle.walks.specs.declared.Floor.{Floor}
use Rattle.walks.specs.Asking.{floor_means}
use Rattle.writing.specs.Coded.{Coded}
use Rattle.writing.specs.Decides.{decided_changed, decided_reason}
use Rattle.writing.specs.Steps.{Codes}
use Rattle.writing.specs.declared.Decided.{Decided}
use Rattle.writing.specs.declared.Decided.TheVariants.{Scan}
use Rattle.writing.proofs.CodeLaws.{coded_same}
use Rattle.turning.specs.Turned.{turned, TurnsAll}
use Rattle.turning.specs.declared.Turn.TheVariants.{Off, Near}
use Rattle.selecting.specs.Selected.{marked, strayed, counted, IsDemoted, IsAside, IsStray, Tips, Settles, Resolves, Settled, Selects}
use Rattle.turning.proofs.FrameLaws.{plan_same, plan_then, pend_plan}
use Rattle.selecting.proofs.MeantLaws.{meant_none}
use Rattle.selecting.proofs.StopLaws.{stop_plain, stop_settles}
use Rattle.selecting.proofs.TestLaws.{mark_of, stray_of, found_demoted, found_aside, found_stray, none_aside, none_strays}
use Rattle.selecting.proofs.TipLaws.{tips_then, tips_room, tips_used}

-- nothing is written
pub scan_settles : (a : Asked) (m : List ℕ) (n : ℕ) → Coded m n (λ q. 0) → Settles scan a m n Scan
scan_settles a m n k = record { changed = refl; codes = λ q. 0; coded = k; meant = meant_none a.holdings a.clock (decided_reason Scan) }

-- ---- the strays ----

near_is : (T U O : Bool) → ((0 if T else 8) if eqb (mark_of U O) 8 else mark_of U O) ≡ stray_of T U O
near_is true true true = refl
near_is true true false = refl
near_is true false true = refl
near_is true false false = refl
near_is false true true = refl
near_is false true false = refl
near_is false false true = refl
near_is false false false = refl

near_turned : (a : Asked) (h : Holdings) (top local q : ℕ) → h ≡ a.holdings → turned Near h top q (marked a local q) ≡ strayed a top local q
unfolding turned marked strayed
near_turned a h top local q e = rw e (near_is (on a top q) (under a.floor (index a q)) (is_canon a q && not (on a local q)))

-- ---- from the marks on ----

module _ (a : Asked) (m : List ℕ) (n : ℕ) (floor : Option ℕ) (per top local : ℕ) (t : Tips a m n floor per top local) (k : Coded m n (marked a local)) where
  -- none are aside, so none are strays
  plain_coded : IsAside a local false → Coded m n (strayed a top local)
  plain_coded i = coded_same m n (marked a local) (strayed a top local) (λ q h. none_aside a n local (tips_room a m n floor per top local t) t.off_is top q h i) k

  plain_stray : IsAside a local false → IsStray a top local false
  plain_stray i = none_strays a n local (tips_room a m n floor per top local t) t.off_is top i

  near_coded : (m₁ : List ℕ) → TurnsAll m m₁ n Near top → Coded m₁ n (strayed a top local)
  near_coded m₁ w =
      coded_same m₁ n (λ q. turned Near (view_at m n).holdings top q (marked a local q)) (strayed a top local) (λ q h. near_turned a (view_at m n).holdings top local q (sym t.asks.holdings))
      (w.right t.sound (tips_used a m n floor per top local t top t.top_live) (marked a local) k)

module _ (m : List ℕ) (n : ℕ) (floor : Option ℕ) (per top local : ℕ) (demoted kept r : Bool) (rests : r ≡ (eqb top local && not kept)) where
  -- best is local and none is aside, or not
  rests_is : (a : Asked) → IsAside a local kept → (eqb top local && is_empty (aside a local)) ≡ r
  rests_is a i = ap (λ (b : Bool). eqb top local && b) i ∙ sym rests

  pub settled_rests : (x : Decided) → r ≡ true → decided_changed x ≡ some (counted demoted) → Settled m m n floor per top local demoted kept x
  unfolding select_from
  settled_rests x z e = record {
    only = plan_same m n;
    right = λ a t k d i.
        let y = not_is_true kept (and_right (eqb top local) (not kept) (sym rests ∙ z)) in
        let j : IsAside a local false = i ∙ ap not y in
        let w = rests_is a i ∙ z in
        rw w (stop_settles a m n local demoted x e d (stop_plain a m n floor per top local t (plain_coded a m n floor per top local t k j) (plain_stray a m n floor per top local t k j)));
  }

  module _ (f : ℕ) (z : r ≡ false) (told : SoundAt m n → (a : Asked) → a.holdings ≡ (view_at m n).holdings → Used m top → Used m local → fork a top local ≡ placed n f) where
    fork_is : (a : Asked) → Tips a m n floor per top local → fork a top local ≡ placed n f
    fork_is a t = told t.sound a t.asks.holdings (tips_used a m n floor per top local t top t.top_live) (tips_used a m n floor per top local t local t.local_live)

    -- no common ancestor
    pub settled_scan : (m₁ : List ℕ) → n ≤ f → Codes m m₁ n (Unit {0}) (λ f q. 0) → Settled m m₁ n floor per top local demoted kept Scan
    unfolding select_from select_at
    settled_scan m₁ l c = record {
      only = pend_plan m m₁ n c.only;
      right = λ a t k d i. let w = rests_is a i ∙ z in let v = fork_is a t ∙ placed_out n f l in rw (w, v) (scan_settles a m₁ n (c.right t.sound tt (marked a local) k));
    }

    module _ (l : f < n) (x : Decided) where
      -- the fork is there, and none is aside
      pub settled_plain : (m₁ : List ℕ) → kept ≡ false → Resolves m m₁ n floor per top local f false demoted x → Settled m m₁ n floor per top local demoted kept x
      unfolding select_from
      settled_plain m₁ y s = record {
        only = s.only;
        right = λ a t k d i.
            let j : IsAside a local false = i ∙ ap not y in
            let w = rests_is a i ∙ z in
            let v = fork_is a t ∙ placed_in n f l in
            rw (w, v) (s.right a t v (plain_coded a m n floor per top local t k j) (plain_stray a m n floor per top local t k j) d);
      }

      -- .. or some are, and whether they are strays is asked
      pub settled_near : (m₁ m₂ : List ℕ) (stray : Bool) → TurnsAll m m₁ n Near top → stray ≡ is_some (first (λ q. eqb (word m₁ (row q + 59)) 8) n) → Resolves m₁ m₂ n floor per top local f stray demoted x
          → Settled m m₂ n floor per top local demoted kept x
      unfolding select_from
      settled_near m₁ m₂ stray o b s = record {
        only = plan_then m m₁ m₂ n o.only s.only;
        right = λ a t k d i.
            let t₁ = tips_then a m n floor per top local t m₁ o.only in
            let k₁ = near_coded a m n floor per top local t k m₁ o in
            let w = rests_is a i ∙ z in
            let v = fork_is a t ∙ placed_in n f l in
            rw (w, v) (s.right a t₁ v k₁ (found_stray a n local (tips_room a m n floor per top local t) t.off_is m₁ top k₁ stray b) d);
      }

-- ---- from both tips on ----

module _ (a : Asked) (local : ℕ) (e : eqb (canonical_count a.holdings) (suc (index a local)) ≡ true) where
  off_none : off a local ≡ []
  unfolding off
  off_none = rw e

  none_demoted : IsDemoted a local false
  unfolding only each
  none_demoted = let z = off_none in rw z

  none_kept : IsAside a local false
  unfolding only
  none_kept = let z = off_none in rw z

  none_marked : (n : ℕ) → ((q : ℕ) → q < n → elem q (off a local) ≡ (is_canon a q && not (on a local q))) → (q : ℕ) → q < n → 0 ≡ marked a local q
  unfolding marked
  none_marked n off_is q h = let z : (is_canon a q && not (on a local q)) ≡ false = sym (off_is q h) ∙ ap (elem q) off_none ∙ elem_none q in rw z

off_turned : (a : Asked) (h : Holdings) (floor : Floor) (local q : ℕ) → h ≡ a.holdings → a.floor ≡ floor_means floor → turned (Off floor) h local q 0 ≡ marked a local q
unfolding turned marked
off_turned a h floor local q e z = rw (e, z)

module _ (m : List ℕ) (n : ℕ) (floor : Floor) (per top local : ℕ) (x : Decided) (r : Bool)
    (told : SoundAt m n → Used m local → r ≡ not (eqb (canonical_count (view_at m n).holdings) (suc (index_of ((view_at m n).holdings.cells local))))) where
  wide_is : (a : Asked) → Tips a m n (floor_means floor) per top local → r ≡ not (eqb (canonical_count a.holdings) (suc (index a local)))
  wide_is a t =
      told t.sound (tips_used a m n (floor_means floor) per top local t local t.local_live)
      ∙ ap (λ (h : Holdings). not (eqb (canonical_count h) (suc (index_of (h.cells local))))) (sym t.asks.holdings)

  pub selects_narrow : (m₁ : List ℕ) → r ≡ false → Settled m m₁ n (floor_means floor) per top local false false x → Selects m m₁ n (floor_means floor) per top local x
  selects_narrow m₁ z s = record {
    only = s.only;
    right = λ a t k.
        let e = not_is (eqb (canonical_count a.holdings) (suc (index a local))) (sym (wide_is a t) ∙ z) in
        s.right a t (coded_same m n (λ q. 0) (marked a local) (none_marked a local e n t.off_is) k) (none_demoted a local e) (none_kept a local e);
  }

  pub selects_wide : (m₁ m₂ : List ℕ) (demoted kept : Bool) → TurnsAll m m₁ n (Off floor) local → demoted ≡ is_some (first (λ q. eqb (word m₁ (row q + 59)) 2) n) → kept ≡ is_some (first (λ q. eqb (word m₁ (row q + 59)) 8) n)
      → Settled m₁ m₂ n (floor_means floor) per top local demoted kept x → Selects m m₂ n (floor_means floor) per top local x
  selects_wide m₁ m₂ demoted kept o d b s = record {
    only = plan_then m m₁ m₂ n o.only s.only;
    right = λ a t k.
        let room = tips_room a m n (floor_means floor) per top local t in
        let k₁ = coded_same m₁ n (λ q. turned (Off floor) (view_at m n).holdings local q 0) (marked a local) (λ q h. off_turned a (view_at m n).holdings floor local q (sym t.asks.holdings) t.asks.floor_is)
        (o.right t.sound (tips_used a m n (floor_means floor) per top local t local t.local_live) (λ q. 0) k) in
        s.right a (tips_then a m n (floor_means floor) per top local t m₁ o.only) k₁ (found_demoted a n local room t.off_is m₁ k₁ demoted d) (found_aside a n local room t.off_is m₁ k₁ kept b);
  }
