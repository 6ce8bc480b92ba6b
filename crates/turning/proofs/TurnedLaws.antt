-- What a pass makes of the code of one place.
use mathlib.Core.Path.{◌≡◌, sym, ◌∙◌}
use mathlib.Core.Bool.{Bool, true, false, not, ◌&&◌}
use mathlib.Core.List.{List}
use Prim.Native.Nat.{ℕ, ◌+◌, ◌<◌}
use native.Mathlib.Omega.{arith}
use lib.Dec.{eqb}
use borrow.Author.Tests.{eqb-true, eq-eqb, ne_eqb}
use Rattle.memory.specs.Words.{word}
use Rattle.memory.specs.Layout.{row}
use Rattle.model.specs.Lists.{elem}
use Rattle.model.specs.Holding.{Holdings, is_live, is_canonical, index_of}
use Rattle.model.specs.Walks.{walk}
use Rattle.model.proofs.Tools.{by_bool, and_left}
use Rattle.model.proofs.WalkLaws.{canonical_live}
use Rattle.state.specs.Sound.{SoundAt, Used}
use Rattle.state.specs.View.{cells_of, view_at}
use Rattle.pending.proofs.NextLaws.{live_used}
use Rattle.walks.specs.Walked.{Lined}
use Rattle.walks.proofs.DownLaws.{index_word}
use Rattle.walks.specs.Asking.{floor_means}
use Rattle.turning.specs.Turned.{off_code, turned}
use Rattle.walks.specs.declared.Floor.{Floor}
use Rattle.turning.specs.declared.Turn.{Turn}
use Rattle.turning.specs.declared.Turn.TheVariants.{Off, Near, Into}

-- a place that gets a code is live
pub turned_live : (t : Turn) (h : Holdings) (top q c : ℕ) → ((c ≡ 0 → ⊥) → is_live (h.cells q) ≡ true) → (turned t h top q c ≡ 0 → ⊥) → is_live (h.cells q) ≡ true
unfolding turned
turned_live (Off floor) h top q c k x =
    by_bool (is_canonical (h.cells q) && not (elem q (walk h top)))
    (λ e. canonical_live (h.cells q) (and_left (is_canonical (h.cells q)) (not (elem q (walk h top))) e))
    (λ e. k (λ z. x (rw e z)))
turned_live Near h top q c k x = by_bool (eqb c 8) (λ e. let z = eqb-true c 8 e in k (λ y. omega arith)) (λ e. k (λ z. x (rw e z)))
turned_live (Into to) h top q c k x = by_bool (eqb c 8) (λ e. let z = eqb-true c 8 e in k (λ y. omega arith)) (λ e. k (λ z. x (rw e z)))

module _ (m : List ℕ) (n top k q : ℕ) (q<n : q < n) where
  abbrev OnLine : Bool → Type 0
  OnLine b = SoundAt m n → Used m q → Lined m n top k → b ≡ elem q (walk (view_at m n).holdings top)

  -- ---- canonical blocks off the walk ----

  module _ (floor : Floor) (c : ℕ) where
    pub off_plain : is_canonical (cells_of m n q) ≡ false → c ≡ turned (Off floor) (view_at m n).holdings top q c
    unfolding turned view_at
    off_plain e = rw e

    used_here : is_canonical (cells_of m n q) ≡ true → Used m q
    used_here e = live_used m n q (canonical_live (cells_of m n q) e)

    pub off_on : is_canonical (cells_of m n q) ≡ true → OnLine true → SoundAt m n → Lined m n top k → c ≡ turned (Off floor) (view_at m n).holdings top q c
    unfolding turned view_at
    off_on e o s l = let i : elem q (walk (view_at m n).holdings top) ≡ true = sym (o s (used_here e) l) in rw (e, i)

    pub off_not : (r : ℕ) → is_canonical (cells_of m n q) ≡ true → OnLine false → r ≡ off_code (floor_means floor) (word m (row q + 12)) → SoundAt m n → Lined m n top k → r ≡ turned (Off floor) (view_at m n).holdings top q c
    unfolding turned view_at
    off_not r e o z s l =
        let i : elem q (walk (view_at m n).holdings top) ≡ false = sym (o s (used_here e) l) in
        let j : index_of ((view_at m n).holdings.cells q) ≡ word m (row q + 12) = index_word m n q q<n (used_here e) in
        rw (e, i, j, z)

  -- ---- blocks aside on the walk ----

  module _ (c : ℕ) where
    pub near_plain : (c ≡ 8 → ⊥) → c ≡ turned Near (view_at m n).holdings top q c
    unfolding turned
    near_plain x = rw (ne_eqb c 8 x)

    pub near_at : (b : Bool) (r : ℕ) → c ≡ 8 → OnLine b → ((b ≡ true → r ≡ 0) × (b ≡ false → r ≡ 8)) → ((c ≡ 0 → ⊥) → Used m q) → SoundAt m n → Lined m n top k → r ≡ turned Near (view_at m n).holdings top q c
    unfolding turned
    near_at b r z o y u s l =
        let i : elem q (walk (view_at m n).holdings top) ≡ b = sym (o s (u (λ x. omega arith)) l) in
        by_bool b (λ e. let j = i ∙ e in rw (eq-eqb c 8 z, j) (y.0 e)) (λ e. let j = i ∙ e in rw (eq-eqb c 8 z, j) (y.1 e))

    pub into_at : (to : ℕ) → c ≡ 8 → to ≡ turned (Into to) (view_at m n).holdings top q c
    unfolding turned
    into_at to z = rw (eq-eqb c 8 z)

    pub into_plain : (to : ℕ) → (c ≡ 8 → ⊥) → c ≡ turned (Into to) (view_at m n).holdings top q c
    unfolding turned
    into_plain to x = rw (ne_eqb c 8 x)
