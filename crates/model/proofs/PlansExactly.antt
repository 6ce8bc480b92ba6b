-- When each plan scans, exactly; a select that says 0 changes nothing; and, of every run with a fresh tree: the entries are in order, and where Adopt looks, the canonical blocks are the local walk.
use Prim.Native.Nat.{ℕ, suc, ◌-◌, ◌<◌}
use mathlib.Core.Path.{◌≡◌, refl, sym, ◌∙◌}
use mathlib.Core.Bool.{Bool, true, false, not, ◌&&◌}
use mathlib.Core.Option.{Option, none, some}
use mathlib.Core.List.{List, [], ◌∷◌, reverse}
use native.Mathlib.Omega.{arith}
use lib.IntN.{ℤ}
use lib.Dec.{eqb}
use Rattle.model.specs.Places.{is_some}
use Rattle.model.specs.Lists.{is_empty, front, last, total}
use Rattle.model.specs.Holding.{is_canonical}
use Rattle.model.specs.Standing.{winner, canonical, is_linked, work_of, best, canonical_count}
use Rattle.model.specs.Comparing.{known}
use Rattle.model.specs.Walks.{Asked, index, hash, meets_at, actual_at, fork, above}
use Rattle.model.specs.Writes.{Write, Plan, scan, apply}
use Rattle.model.specs.Select.{on, aside, demotions, some?, held_back, goes_on, select_at, select_from, select}
use Rattle.model.specs.Adopt.{Verdict, pass_on, refused, accepted, ancestor, extension, safe_front, ours, judge, then, search_leaves, leaves_of, adopt_from, adopt}
use Rattle.model.specs.Numbers.{State}
use Rattle.model.specs.Plans.{PlanCall, select_c, adopt_c, asked, plan_of}
use Rattle.model.specs.Runs.{Run}
use Rattle.model.proofs.Tools.{by_bool, by_option, no_both}
use Rattle.model.proofs.Demand3.{distinct}
use Rattle.model.proofs.Upheld.{upheld}
use Rattle.model.proofs.PlanLaws.{Says}
use Rattle.model.proofs.Entries.{OfLive, Orderly, orderly, select_live, adopt_live}
use Rattle.model.proofs.LocalWalk.{canonical_spine, spine_canonical, ancestor-on, our_work, peer_work_lem}

abbrev pub is_scan : Plan → Bool
is_scan scan = true
is_scan (apply n ws) = false

-- ---- Adopt: exactly if there is no canonical best or the canonical count is not local index + 1 ----

abbrev pub adopt_scans : Asked → Option ℕ → Bool
adopt_scans a none = true
adopt_scans a (some local) = not (eqb (canonical_count a.holdings) (suc (index a local)))

search_applies : (a : Asked) (local : ℕ) (l : List ℕ) → is_scan (search_leaves a local l) ≡ false
unfolding search_leaves
search_applies a local [] = refl
search_applies a local (leaf ∷ l) = go (judge a local leaf) (search_leaves a local l) (search_applies a local l)
  where
    go : (v : Verdict) (rest : Plan) → is_scan rest ≡ false → is_scan (then v rest) ≡ false
    go pass_on rest e = e
    go (refused ws) scan e = e
    go (refused ws) (apply n l) e = refl
    go (accepted n ws) rest e = refl

pub adopt_scans_lem : (a : Asked) → is_scan (adopt a) ≡ adopt_scans a (best a.holdings (a.values canonical))
unfolding adopt adopt_from
adopt_scans_lem a = by_option (best a.holdings (a.values canonical)) (λ b. rw b) (λ local b. rw b (by_bool (eqb (canonical_count a.holdings) (suc (index a local))) (λ i. rw i (search_applies a local (leaves_of a))) (λ i. rw i)))

-- ---- Select: exactly if there is no best, no canonical best, or no common ancestor when one is sought ----

abbrev pub select_scans : Asked → Option ℕ → Option ℕ → Bool
select_scans a none local = true
select_scans a (some top) none = true
select_scans a (some top) (some local) = not (eqb top local && is_empty (aside a local)) && not (is_some (fork a top local))

pub select_scans_lem : (a : Asked) → is_scan (select a) ≡ select_scans a (best a.holdings (a.values winner)) (best a.holdings (a.values canonical))
unfolding select select_from select_at
select_scans_lem a = by_option (best a.holdings (a.values winner)) (λ t. rw t) (λ top t. by_option (best a.holdings (a.values canonical)) (λ b. rw (t, b)) (λ local b. rw (t, b) (by_bool (eqb top local && is_empty (aside a local)) (λ i. rw i) (λ i. rw i (at top local (fork a top local))))))
  where
    at : (top local : ℕ) (f : Option ℕ) → is_scan (select_at a top local f) ≡ not (is_some f)
    at top local none = refl
    at top local (some f) = by_bool (held_back a top local f) (λ i. rw i) (λ i. by_bool (goes_on a top local f) (λ j. rw (i, j)) (λ j. rw (i, j)))

-- ---- a select that says 0 has no entry ----

abbrev Idle : Plan → Type 0
Idle scan = Unit {0}
Idle (apply n ws) = n ≡ 0 → ws ≡ []

stop_idle : (ws : List Write) → some? ws ≡ 0 → ws ≡ []
stop_idle [] e = refl
stop_idle (w ∷ l) e = absurd (omega arith)

pub select_idle : (a : Asked) → Idle (select a)
unfolding select select_from select_at
select_idle a = by_option (best a.holdings (a.values winner)) (λ t. rw t tt) (λ top t. by_option (best a.holdings (a.values canonical)) (λ b. rw (t, b) tt) (λ local b. rw (t, b) (by_bool (eqb top local && is_empty (aside a local)) (λ i. rw i (stop_idle (demotions a local))) (λ i. rw i (at top local (fork a top local))))))
  where
    at : (top local : ℕ) (f : Option ℕ) → Idle (select_at a top local f)
    at top local none = tt
    at top local (some f) = by_bool (held_back a top local f) (λ i. rw i (stop_idle (demotions a local))) (λ i. by_bool (goes_on a top local f) (λ j. rw (i, j) (λ e. absurd (omega arith))) (λ j. rw (i, j) (stop_idle (demotions a local))))

-- ---- of every run with a fresh tree ----

module _ {s : State} (r : Run s) (fresh : s.fresh ≡ true) where
  says : (c : PlanCall) → Says (OfLive s.holdings) (plan_of c s)
  says (select_c floor n clock lent) = select_live (asked s floor n clock) (upheld r fresh)
  says (adopt_c floor n clock lent) = adopt_live (asked s floor n clock) (upheld r fresh)

  -- strictly by index and hash, no block twice, live blocks only, and no more than the list must hold
  pub plan_orderly : (c : PlanCall) (n : ℕ) (ws : List Write) → plan_of c s ≡ apply n ws → Orderly s.holdings ws
  unfolding Says
  plan_orderly c n ws e = orderly s.holdings (distinct r) ws (rw e at (says c))

  module _ (floor : Option ℕ) (n : ℕ) (clock : ℤ) where
    abbrev a : Asked
    a = asked s floor n clock

    module _ (local : ℕ) (b : best s.holdings (s.values canonical) ≡ some local) (full : canonical_count s.holdings ≡ suc (index a local)) where
      -- where Adopt looks, a block is canonical exactly if it is on the local walk
      pub spine : (p : ℕ) → p < s.holdings.room → is_canonical (s.holdings.cells p) ≡ on a local p
      spine p i = by_bool (is_canonical (s.holdings.cells p)) (λ c. c ∙ sym (canonical_spine a (upheld r fresh canonical) local b full p i c)) (λ c. by_bool (on a local p) (λ o. no_both (is_canonical (s.holdings.cells p)) (spine_canonical a (upheld r fresh canonical) local b p o) c) (λ o. c ∙ sym o))

      -- so an ancestor is on it, and its canonical linked value exists
      pub ancestor_spine : (leaf f : ℕ) → leaf < s.holdings.room → ancestor a leaf ≡ some f → (on a local f ≡ true) × (is_linked (s.values canonical f) ≡ true)
      ancestor_spine = ancestor-on a (upheld r fresh canonical) local b full

      -- and both works that Adopt compares are differences of linked works, as the Rust has them
      pub ours_differ : (leaf f p : ℕ) (l : List ℕ) → leaf < s.holdings.room → ancestor a leaf ≡ some f → front (meets_at a) (reverse (above a f local)) ≡ p ∷ l
          → ours a local f ≡ record { work = known (work_of (s.values canonical (last p l)) - work_of (s.values canonical f)); index = index a (last p l); hash = hash a (last p l) }
      ours_differ = our_work a (upheld r fresh canonical) local b full

    pub peers_differ : (local leaf f p : ℕ) (l : List ℕ) → is_linked (s.values winner leaf) ≡ true → ancestor a leaf ≡ some f → safe_front a local (extension a leaf) ≡ p ∷ l
        → total (actual_at a) (p ∷ l) ≡ work_of (s.values winner (last p l)) - work_of (s.values winner f)
    peers_differ = peer_work_lem a (upheld r fresh winner)
