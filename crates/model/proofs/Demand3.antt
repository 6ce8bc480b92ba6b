-- The third demand. From a fresh start, after any accepted or refused loads, puts, removals, answers, reloads and syncs, if the last sync covers the present,
-- each block's linked and canonical linked value, both best tips, the leaves and the counts are what 01's rules give for the records and answers now held, worked out from nothing.
-- Premise (`InTime`): an ineligible answer comes before the first sync after its hash was given room.
use Prim.Native.Nat.{ℕ}
use mathlib.Core.Path.{◌≡◌, refl, ap, fun_ext}
use mathlib.Core.Bool.{Bool, true, false}
use mathlib.Core.List.{[]}
use Rattle.model.specs.Lists.{elem}
use Rattle.model.specs.Holding.{Cell, free, held}
use Rattle.model.specs.Standing.{Spine, canonical, from_nothing}
use Rattle.model.specs.Relink.{changed_in}
use Rattle.model.specs.Questions.{TreeQuestion, tree_reply}
use Rattle.model.specs.Numbers.{State}
use Rattle.model.specs.Runs.{Run, new_of, InTime}
use Rattle.model.proofs.FromNothing.{from_nothing_lem}
use Rattle.model.proofs.Parent.{Distinct}
use Rattle.model.proofs.Cells.{Wide}
use Rattle.model.proofs.Invariant.{Inv, Always, CanonicalOnly, in_time, any_time}

not_changed : (c : Cell) → changed_in [] c ≡ false
unfolding changed_in elem
not_changed free = refl
not_changed (held c) = refl

-- a fresh tree has the values worked out from nothing, of each walk that can be relied on
fresh_values : (Sure : Spine → Type 0) (s : State) (new : ℕ → Bool) → Inv Sure s new → s.fresh ≡ true → (w : Spine) → Sure w → s.values w ≡ from_nothing s.holdings w
fresh_values Sure s new inv f w g = from_nothing_lem s.holdings inv.distinct w s.values (λ p. inv.clean w g [] (inv.current f) p (not_changed (s.holdings.cells p)))

pub values : {s : State} (r : Run s) → InTime r → s.fresh ≡ true → s.values ≡ from_nothing s.holdings
values {s} r t f = fun_ext (λ w. fresh_values Always s (new_of r) (in_time r t) f w tt)

-- so every tree question is answered as if worked out from nothing
pub demand3 : {s : State} (r : Run s) → InTime r → s.fresh ≡ true → (q : TreeQuestion) → tree_reply s.holdings s.values q ≡ tree_reply s.holdings (from_nothing s.holdings) q
demand3 {s} r t f q = ap (λ v. tree_reply s.holdings v q) (values r t f)

-- the canonical values need no premise
pub canonical_values : {s : State} (r : Run s) → s.fresh ≡ true → s.values canonical ≡ from_nothing s.holdings canonical
canonical_values {s} r f = fresh_values CanonicalOnly s (new_of r) (any_time r) f canonical tt

-- nor does it that no hash has room twice, and that no place past the room is taken
pub distinct : {s : State} → Run s → Distinct s.holdings
distinct r = (any_time r).distinct

pub wide : {s : State} → Run s → Wide s.holdings
wide r = (any_time r).wide
