-- All turns: what is left to do comes to the same, and takes no more turns than are left.
use mathlib.Core.Path.{◌≡◌, refl, sym, ap, ◌∙◌, subst}
use mathlib.Core.Bool.{true, false}
use mathlib.Core.List.{List}
use mathlib.Core.Option.{Option, none, some}
use Prim.Native.Nat.{ℕ, ◌+◌, ◌*◌, ◌≤◌, ◌<◌}
use native.Mathlib.Omega.{arith}
use Rattle.model.specs.Holding.{Holdings}
use Rattle.model.specs.Standing.{Values}
use Rattle.model.specs.Relink.{Pending, worked, after, goes_before, next, settled}
use Rattle.model.proofs.Tools.{by_option, no_both, pick_some, pick-none}
use Rattle.model.proofs.Settled.{settled-none, settled-some}
use Rattle.model.proofs.Budget.{budget, budget_falls, budget_start}
use Rattle.memory.specs.Words.{word}
use Rattle.memory.specs.Layout.{row}
use Rattle.contest.proofs.KeyLaws.{enters_no}
use Rattle.state.specs.View.{values_of, view_at}
use Rattle.state.specs.Sound.{SoundAt, placed}
use Rattle.state.specs.TreeOnly.{TreeOnly}
use Rattle.state.proofs.FindLaws.{placed_in, placed_out}
use Rattle.state.proofs.TreeSteps.{tree_same, tree_then, tree_holdings, tree_sound}
use Rattle.standing.proofs.ParentLaws.{sound_distinct}
use Rattle.pending.specs.Pending.{Pends}
use Rattle.pending.proofs.PendLaws.{pends_same}
use Rattle.relink.specs.Treed.{Treed}
use Rattle.relink.specs.Turned.{Turned, Settled, Settles}

-- from m₀ to m as many turns were `taken`, and those left of n * n + n are enough for what is pending
pub record Going (m₀ m : List ℕ) (n taken : ℕ) (pend₀ : Pending) : Type 0 where
  pub pend : Pending
  pub treed : Treed m n
  pub pends : Pends m n pend
  pub same : settled (view_at m₀ n).holdings (values_of m n) pend ≡ settled (view_at m₀ n).holdings (values_of m₀ n) pend₀
  pub enough : budget (view_at m₀ n).holdings (values_of m n) pend + taken ≤ n * n + n

pub record Settling (m₀ m : List ℕ) (n taken : ℕ) : Type 0 where
  pub only : TreeOnly m₀ m n
  pub going : SoundAt m₀ n → Treed m₀ n → (pend₀ : Pending) → Pends m₀ n pend₀ → Going m₀ m n taken pend₀

room_is : (m : List ℕ) (n : ℕ) → (view_at m n).holdings.room ≡ n
unfolding view_at
room_is m n = refl

-- with no turn to take all is settled
settled_at : (m₀ m : List ℕ) (n taken : ℕ) (pend₀ : Pending) (x : Going m₀ m n taken pend₀) → next (view_at m₀ n).holdings x.pend ≡ none → Settled m₀ m n pend₀
settled_at m₀ m n taken pend₀ x e = record {
  treed = x.treed;
  values = sym (settled-none (view_at m₀ n).holdings (values_of m n) x.pend e) ∙ x.same;
  pends = pends_same m n x.pend (λ q. false) (λ q h. pick-none x.pend (λ a b. goes_before ((view_at m₀ n).holdings.cells a) ((view_at m₀ n).holdings.cells b)) (view_at m₀ n).holdings.room q e (subst (λ (r : ℕ). q < r) (sym (room_is m₀ n)) h)) x.pends;
}

pub settling_start : (m : List ℕ) (n : ℕ) → Settling m m n 0
settling_start m n = record {
  only = tree_same m n;
  going = λ s t pend₀ p. record {
    pend = pend₀;
    treed = t;
    pends = p;
    same = refl;
    enough = subst (λ (r : ℕ). budget (view_at m n).holdings (values_of m n) pend₀ + 0 ≤ r * r + r) (room_is m n) (let b = budget_start (view_at m n).holdings (sound_distinct m n s) (values_of m n) pend₀ in omega arith);
  };
}

module _ (m₀ m : List ℕ) (n taken p : ℕ) (g : Settling m₀ m n taken) (is : SoundAt m n → (pend : Pending) → Pends m n pend → next (view_at m n).holdings pend ≡ placed n p) where
  next_is : (o : Option ℕ) → placed n p ≡ o → SoundAt m₀ n → (pend : Pending) → Pends m n pend → next (view_at m₀ n).holdings pend ≡ o
  next_is o e s pend q = ap (λ (h : Holdings). next h pend) (sym (tree_holdings m₀ m n g.only)) ∙ is (tree_sound m₀ m n g.only s) pend q ∙ e

  pub settling_turn : (m' : List ℕ) → p < n → Turned m m' n p → Settling m₀ m' n (taken + 1)
  settling_turn m' p<n t = record {
    only = tree_then m₀ m m' n g.only t.only;
    going = λ s t₀ pend₀ q.
        let x = g.going s t₀ pend₀ q in
        let e : next (view_at m₀ n).holdings x.pend ≡ some p = next_is (some p) (placed_in n p p<n) s x.pend x.pends in
        let now : x.pend p ≡ true = (pick_some x.pend (λ a b. goes_before ((view_at m₀ n).holdings.cells a) ((view_at m₀ n).holdings.cells b)) (view_at m₀ n).holdings.room p e).0 in
        let y = t.right (tree_sound m₀ m n g.only s) x.treed x.pend x.pends now in
        let h : (view_at m n).holdings ≡ (view_at m₀ n).holdings = tree_holdings m₀ m n g.only in
        let v : values_of m' n ≡ worked (view_at m₀ n).holdings (values_of m n) p = y.values ∙ ap (λ (z : Holdings). worked z (values_of m n) p) h in
        let f = budget_falls (view_at m₀ n).holdings (values_of m n) x.pend p e in
        let b = x.enough in
        record {
          pend = after (view_at m₀ n).holdings (values_of m n) p x.pend;
          treed = y.treed;
          pends = subst (λ (z : Holdings). Pends m' n (after z (values_of m n) p x.pend)) h y.pends;
          same = ap (λ (z : Values). settled (view_at m₀ n).holdings z (after (view_at m₀ n).holdings (values_of m n) p x.pend)) v ∙ sym (settled-some (view_at m₀ n).holdings (values_of m n) x.pend p e) ∙ x.same;
          enough = subst (λ (z : Values). budget (view_at m₀ n).holdings z (after (view_at m₀ n).holdings (values_of m n) p x.pend) + (taken + 1) ≤ n * n + n) (sym v) (omega arith);
        };
  }

  pub settling_done : n ≤ p → Settles m₀ m n
  settling_done n≤p = record {
    only = g.only;
    right = λ s t₀ pend₀ q. let x = g.going s t₀ pend₀ q in settled_at m₀ m n taken pend₀ x (next_is none (placed_out n p n≤p) s x.pend x.pends);
  }

  -- a first place that is not marked: no memory that calls left has one
  pub settling_unmarked : p < n → word m (row p + 59) ≡ 0 → Settles m₀ m n
  settling_unmarked p<n z = record {
    only = g.only;
    right = λ s t₀ pend₀ q.
        let x = g.going s t₀ pend₀ q in
        let e : next (view_at m₀ n).holdings x.pend ≡ some p = next_is (some p) (placed_in n p p<n) s x.pend x.pends in
        let now : x.pend p ≡ true = (pick_some x.pend (λ a b. goes_before ((view_at m₀ n).holdings.cells a) ((view_at m₀ n).holdings.cells b)) (view_at m₀ n).holdings.room p e).0 in
        no_both true refl (sym now ∙ sym (x.pends.members p p<n) ∙ enters_no m 2 p z);
  }

pub settling_spent : (m₀ m : List ℕ) (n taken : ℕ) → Settling m₀ m n taken → n * n + n ≤ taken → Settles m₀ m n
settling_spent m₀ m n taken g l = record {
  only = g.only;
  right = λ s t₀ pend₀ q.
      let x = g.going s t₀ pend₀ q in
      let b = x.enough in
      settled_at m₀ m n taken pend₀ x (by_option (next (view_at m₀ n).holdings x.pend) (λ e. e) (λ p e. let f = budget_falls (view_at m₀ n).holdings (values_of m n) x.pend p e in absurd (omega arith)));
}
