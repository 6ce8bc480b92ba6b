-- Where Select switches: after best's walk was climbed, then local's, then the strays turned, each place has the code of the last of the model's changes to it.
use mathlib.Core.Path.{◌≡◌, refl, sym, ap, ◌∙◌}
use mathlib.Core.Bool.{Bool, true, false, cond, not, ◌&&◌, ◌||◌}
use mathlib.Core.List.{List}
use mathlib.Core.Option.{Option, some}
use Prim.Native.Nat.{ℕ, ◌<◌}
use lib.Dec.{eqb}
use Rattle.amount.specs.Choose.{◌if◌else◌}
use Rattle.model.specs.Lists.{elem}
use Rattle.model.specs.Holding.{is_live}
use Rattle.model.specs.Record.{Copy, off_spine}
use Rattle.model.specs.Walks.{Asked, index, is_canon, fork, above, under}
use Rattle.model.specs.Writes.{demote, changed, copy_of, copy_after}
use Rattle.model.specs.Select.{on, demotions, switch}
use Rattle.model.proofs.Tools.{by_bool, no_both}
use Rattle.model.proofs.WalkLaws.{walk_live}
use Rattle.model.proofs.PlanLaws.{in_walk}
use Rattle.model.proofs.Switched.{only_is, append_is, live_flag}
use Rattle.state.specs.View.{view_at}
use Rattle.writing.specs.Coded.{Coded}
use Rattle.writing.specs.Decides.{decided_changed, decided_reason}
use Rattle.writing.specs.declared.Decided.{Decided}
use Rattle.writing.proofs.CodeLaws.{coded_same}
use Rattle.turning.specs.Turned.{climbed, turned, Climbs, TurnsAll}
use Rattle.turning.specs.declared.Turn.TheVariants.{Into}
use Rattle.selecting.specs.Selected.{strayed, switched, demoted_of, promoted_of, strays_of, competing_of, IsStray, Tips, Settles, Switches}
use Rattle.turning.proofs.FrameLaws.{plan_then, pend_plan}
use Rattle.selecting.proofs.MeantLaws.{after_each, demote_again, meant_three}
use Rattle.selecting.proofs.TestLaws.{stray_is, demoted_is, strays_is, no_stray}
use Rattle.selecting.proofs.TipLaws.{tips_then, tips_room, tips_live, tips_used, fork_used}

-- ---- one place: a stray S, demoted D, canonical C, above the fork on best's walk and on local's ----

abbrev risen_of : Bool → Bool → ℕ → ℕ
risen_of C best x = (1 if eqb x 2 || not C else x) if best else x

abbrev fallen_of : Bool → ℕ → ℕ
fallen_of local x = 3 if local else x

abbrev end_of : ℕ → ℕ
end_of x = 3 if eqb x 8 else x

abbrev code_of : Bool → Bool → Bool → Bool → Bool → ℕ
code_of S D C best local = 3 if local || S else 1 if not (cond D false C) && best else 2 if D else 0

table : (S D C best local : Bool) → (best ≡ true → S ≡ false) → end_of (fallen_of local (risen_of C best (8 if S else 2 if D else 0))) ≡ code_of S D C best local
table S D C best true apart = refl
table true D C true false apart = no_both true refl (apart refl)
table true D C false false apart = refl
table false true C true false apart = refl
table false true C false false apart = refl
table false false true true false apart = refl
table false false true false false apart = refl
table false false false true false apart = refl
table false false false false false apart = refl

-- no stray: there is nothing to turn
table_none : (S D C best local : Bool) → S ≡ false → fallen_of local (risen_of C best (8 if S else 2 if D else 0)) ≡ code_of S D C best local
table_none S D C best true e = refl
table_none true D C best false e = no_both true refl e
table_none false true C true false e = refl
table_none false true C false false e = refl
table_none false false true true false e = refl
table_none false false true false false e = refl
table_none false false false true false e = refl
table_none false false false false false e = refl

-- ---- the lists ----

module _ (a : Asked) (top local f q : ℕ) where
  abbrev best : Bool
  best = elem q (above a f top)

  abbrev demoted : Bool
  demoted = elem q (demoted_of a local)

  by_now : (copy_after a.holdings (demotions a local) q).canonical ≡ cond demoted false (copy_of (a.holdings.cells q)).canonical
  unfolding changed
  by_now =
      ap (λ (k : Copy). k.canonical) (after_each (demote off_spine) (demote_again off_spine) (demoted_of a local) q (copy_of (a.holdings.cells q)))
      ∙ by_bool demoted (λ e. rw e) (λ e. rw e)

  -- a block of best's walk is live, so that its copy tells whether it is canonical
  pub promoted_is : is_live (a.holdings.cells top) ≡ true → elem q (promoted_of a top local f) ≡ (not (cond demoted false (is_canon a q)) && best)
  promoted_is v =
      only_is (λ p. not (copy_after a.holdings (demotions a local) p).canonical) q (above a f top)
      ∙ by_bool best
      (λ e. ap (λ (b : Bool). not b && best) (by_now ∙ ap (λ (b : Bool). cond demoted false b) (live_flag (a.holdings.cells q) (walk_live a.holdings top q v (in_walk a f top q e)))))
      (λ e. rw e (none (not (copy_after a.holdings (demotions a local) q).canonical) ∙ sym (none (not (cond demoted false (is_canon a q))))))
    where
      none : (b : Bool) → (b && false) ≡ false
      none true = refl
      none false = refl

  pub competing_is : elem q (competing_of a top local f) ≡ (elem q (above a f local) || elem q (strays_of a top local))
  competing_is = append_is q (above a f local) (strays_of a top local)

-- ---- the codes, step by step ----

abbrev risen : Asked → ℕ → ℕ → ℕ → ℕ → ℕ
risen a top local f q = climbed true a.holdings q (strayed a top local q) if elem q (above a f top) else strayed a top local q

abbrev fallen : Asked → ℕ → ℕ → ℕ → ℕ → ℕ
fallen a top local f q = climbed false a.holdings q (risen a top local f q) if elem q (above a f local) else risen a top local f q

module _ (a : Asked) (m : List ℕ) (n : ℕ) (floor : Option ℕ) (per top local f : ℕ) (t : Tips a m n floor per top local) (e : fork a top local ≡ some f) where
  abbrev S : ℕ → Bool
  S q = not (on a top q) && (under a.floor (index a q) && (is_canon a q && not (on a local q)))

  abbrev D : ℕ → Bool
  D q = not (under a.floor (index a q)) && (is_canon a q && not (on a local q))

  stray_code : (q : ℕ) → strayed a top local q ≡ (8 if S q else 2 if D q else 0)
  unfolding strayed
  stray_code q = stray_is (on a top q) (under a.floor (index a q)) (is_canon a q && not (on a local q))

  fallen_is : (q : ℕ) → fallen a top local f q ≡ fallen_of (elem q (above a f local)) (risen_of (is_canon a q) (elem q (above a f top)) (8 if S q else 2 if D q else 0))
  unfolding climbed
  fallen_is q = rw (stray_code q)

  -- a stray is not on best's walk
  apart : (q : ℕ) → elem q (above a f top) ≡ true → S q ≡ false
  apart q i = let o : on a top q ≡ true = in_walk a f top q i in rw o

  switched_is : (q : ℕ) → q < n → switched a top local f q ≡ code_of (S q) (D q) (is_canon a q) (elem q (above a f top)) (elem q (above a f local))
  unfolding switched
  switched_is q h =
      let d = demoted_is a n local (tips_room a m n floor per top local t) t.off_is q h in
      let s = strays_is a n local (tips_room a m n floor per top local t) t.off_is top q h in
      rw (competing_is a top local f q, promoted_is a top local f q t.top_live, d, s)

  turned_all : (q : ℕ) → q < n → end_of (fallen a top local f q) ≡ switched a top local f q
  turned_all q h = ap end_of (fallen_is q) ∙ table (S q) (D q) (is_canon a q) (elem q (above a f top)) (elem q (above a f local)) (apart q) ∙ sym (switched_is q h)

  turned_none : (q : ℕ) → q < n → IsStray a top local false → fallen a top local f q ≡ switched a top local f q
  turned_none q h i =
      fallen_is q
      ∙ table_none (S q) (D q) (is_canon a q) (elem q (above a f top)) (elem q (above a f local)) (no_stray a n local (tips_room a m n floor per top local t) t.off_is top q h i)
      ∙ sym (switched_is q h)

  -- ---- the memory ----

  module _ (m₁ m₂ : List ℕ) (up : Climbs m m₁ n true top f) (fall : Climbs m₁ m₂ n false local f) (k : Coded m n (strayed a top local)) where
    t₁ : Tips a m₁ n floor per top local
    t₁ = tips_then a m n floor per top local t m₁ (pend_plan m m₁ n up.only)

    rose : Coded m₁ n (risen a top local f)
    rose =
        let z : (view_at m n).holdings ≡ a.holdings = sym t.asks.holdings in
        rw z at (up.right t.sound a t.asks.holdings (tips_live a m n floor per top local t top t.top_live) (fork_used a m n floor per top local t f e) (strayed a top local) k)

    pub fell : Coded m₂ n (fallen a top local f)
    fell =
        let z : (view_at m₁ n).holdings ≡ a.holdings = sym t₁.asks.holdings in
        rw z at (fall.right t₁.sound a t₁.asks.holdings (tips_live a m₁ n floor per top local t₁ local t₁.local_live) (fork_used a m₁ n floor per top local t₁ f e) (risen a top local f) rose)

    pub switch_plain : IsStray a top local false → Coded m₂ n (switched a top local f)
    switch_plain i = coded_same m₂ n (fallen a top local f) (switched a top local f) (λ q h. turned_none q h i) fell

    pub switch_turned : (m₃ : List ℕ) → TurnsAll m₂ m₃ n (Into 3) top → Coded m₃ n (switched a top local f)
    unfolding turned
    switch_turned m₃ w =
        let t₂ = tips_then a m₁ n floor per top local t₁ m₂ (pend_plan m₁ m₂ n fall.only) in
        coded_same m₃ n (λ q. turned (Into 3) (view_at m₂ n).holdings top q (fallen a top local f q)) (switched a top local f) turned_all
        (w.right t₂.sound (tips_used a m₂ n floor per top local t₂ top t₂.top_live) (fallen a top local f) fell)

-- ---- the function ----

module _ (m m₁ m₂ : List ℕ) (n top local f : ℕ) (stray : Bool) (up : Climbs m m₁ n true top f) (fall : Climbs m₁ m₂ n false local f) where
  pub switches_plain : stray ≡ false → Switches m m₂ n top local f stray
  switches_plain z = record {
    only = plan_then m m₁ m₂ n (pend_plan m m₁ n up.only) (pend_plan m₁ m₂ n fall.only);
    right = λ floor per a t e k i. switch_plain a m n floor per top local f t e m₁ m₂ up fall k (i ∙ z);
  }

  pub switches_turned : (m₃ : List ℕ) → TurnsAll m₂ m₃ n (Into 3) top → Switches m m₃ n top local f stray
  switches_turned m₃ w = record {
    only = plan_then m m₂ m₃ n (plan_then m m₁ m₂ n (pend_plan m m₁ n up.only) (pend_plan m₁ m₂ n fall.only)) w.only;
    right = λ floor per a t e k i. switch_turned a m n floor per top local f t e m₁ m₂ up fall k m₃ w;
  }

-- `changed` is 1, and the codes stand for the three lists of changes
pub switch_settles : (a : Asked) (m : List ℕ) (n top local f : ℕ) (x : Decided) → decided_changed x ≡ some 1 → Coded m n (switched a top local f) → Settles (switch a top local f) a m n x
unfolding switched
switch_settles a m n top local f x e k = record {
  changed = e;
  codes = λ q. 3 if elem q (competing_of a top local f) else 1 if elem q (promoted_of a top local f) else 2 if elem q (demoted_of a local) else 0;
  coded = k;
  meant = meant_three a.holdings a.clock (decided_reason x) (demoted_of a local) (promoted_of a top local f) (competing_of a top local f);
}
