-- Whether Select goes on: held back or not, adopted or not, from what the memory says of best, local and the fork.
use mathlib.Core.Path.{◌≡◌, refl, sym, ap, ◌∙◌}
use mathlib.Core.Bool.{Bool, true, false, not, ◌&&◌, ◌||◌}
use mathlib.Core.List.{List, [], ◌∷◌}
use mathlib.Core.Option.{Option}
use Prim.Native.Nat.{ℕ, ◌+◌, ◌<◌}
use borrow.Author.Tests.{eq-eqb, ne_eqb}
use Rattle.memory.specs.Words.{word}
use Rattle.memory.specs.Layout.{row}
use Rattle.model.specs.Places.{is_some}
use Rattle.model.specs.Lists.{any, all}
use Rattle.model.specs.Holding.{Holdings, index_of}
use Rattle.model.specs.Standing.{canonical, winner, Values, proofs_ok}
use Rattle.model.specs.Comparing.{Side, choose_verified, is_adopted, Comparison}
use Rattle.model.specs.Walks.{Asked, index, covers_at, cell_covers, below}
use Rattle.model.specs.Select.{on, aside, held_back, goes_on, compared, side_of}
use Rattle.model.proofs.Tools.{by_bool, not_is, not_is_true}
use Rattle.state.specs.Sound.{Used}
use Rattle.state.specs.View.{cells_of, values_of, view_at}
use Rattle.walks.proofs.DownLaws.{index_word}
use Rattle.walks.specs.Asking.{Asks}

all_any : (f : ℕ → Bool) (l : List ℕ) → all f l ≡ not (any (λ p. not (f p)) l)
unfolding all any
all_any f [] = refl
all_any f (x ∷ l) = by_bool (f x) (λ e. rw e (all_any f l)) (λ e. rw e)

module _ (m : List ℕ) (n top local f : ℕ) (floor : Option ℕ) (per : ℕ) (stray : Bool) (local<n : local < n) (f<n : f < n)
    (ul : Used m local) (uf : Used m f) (a : Asked) (k : Asks a m n floor per) (z : any (λ p. not (on a top p)) (aside a local) ≡ stray) where
  module _ (p : Bool) (i : p ≡ proofs_ok (values_of m n canonical local)) where
    proofs_is : proofs_ok (a.values canonical local) ≡ p
    unfolding view_at
    proofs_is = ap (λ (v : Values). proofs_ok (v canonical local)) k.values ∙ sym i

    pub held_unproven : not p ≡ true → false ≡ held_back a top local f
    unfolding held_back
    held_unproven x = let w = proofs_is ∙ not_is_true p x in rw w

    module _ (r : Bool) (j : r ≡ (is_some floor && (below floor (word m (row f + 12)) (word m (row local + 12)) || stray))) (x : not p ≡ false) where
      proven : proofs_ok (a.values canonical local) ≡ true
      proven = proofs_is ∙ not_is p x

      floor_eq : (is_some a.floor && (below a.floor (index a f) (index a local) || any (λ p. not (on a top p)) (aside a local))) ≡ r
      floor_eq =
          let ef : index a f ≡ word m (row f + 12) = ap (λ (h : Holdings). index_of (h.cells f)) k.holdings ∙ index_word m n f f<n uf in
          let el : index a local ≡ word m (row local + 12) = ap (λ (h : Holdings). index_of (h.cells local)) k.holdings ∙ index_word m n local local<n ul in
          rest a.floor k.floor_is (index a f) ef (index a local) el (any (λ p. not (on a top p)) (aside a local)) z ∙ sym j
        where
          rest : (o : Option ℕ) → o ≡ floor → (x : ℕ) → x ≡ word m (row f + 12) → (y : ℕ) → y ≡ word m (row local + 12) → (b : Bool) → b ≡ stray
              → (is_some o && (below o x y || b)) ≡ (is_some floor && (below floor (word m (row f + 12)) (word m (row local + 12)) || stray))
          rest o eo x ex y ey b eb = rw (eo, ex, ey, eb)

      pub held_floor : r ≡ true → true ≡ held_back a top local f
      unfolding held_back
      held_floor t = let w = floor_eq ∙ t in rw (proven, w)

      covers_eq : (q : ℕ) (c : Bool) → c ≡ cell_covers per (cells_of m n q) → covers_at a q ≡ c
      unfolding view_at
      covers_eq q c d = ap (λ (h : Holdings). cell_covers a.per_epoch (h.cells q)) k.holdings ∙ ap (λ (b : ℕ). cell_covers b (cells_of m n q)) k.per_is ∙ sym d

      module _ (t : r ≡ false) (c : Bool) (d : c ≡ cell_covers per (cells_of m n local)) where
        pub held_short : c ≡ false → false ≡ held_back a top local f
        unfolding held_back
        held_short g = let w = floor_eq ∙ t in let y = covers_eq local c d ∙ g in rw (proven, w, y)

        pub held_covers : c ≡ true → (b : Bool) → b ≡ cell_covers per (cells_of m n top) → not b ≡ held_back a top local f
        unfolding held_back
        held_covers g b h = let w = floor_eq ∙ t in let y = covers_eq local c d ∙ g in let u = covers_eq top b h in rw (proven, w, y, u)

module _ (a : Asked) (top local f : ℕ) (stray : Bool) (z : any (λ p. not (on a top p)) (aside a local) ≡ stray) (us them : Side) (eu : us ≡ side_of a canonical local) (et : them ≡ side_of a winner top)
    (c : Comparison) (e : c ≡ choose_verified us them) (r : Bool) (i : r ≡ is_adopted c.outcome) where
  adopted_is : is_adopted (compared a top local).outcome ≡ r
  adopted_is = sym (i ∙ ap (λ (c : Comparison). is_adopted c.outcome) (e ∙ ap (λ (s : Side). choose_verified s them) eu ∙ ap (choose_verified (side_of a canonical local)) et))

  pub goes_adopted : r ≡ true → true ≡ goes_on a top local f
  unfolding goes_on
  goes_adopted t = let w = adopted_is ∙ t in rw w

  pub goes_apart : r ≡ false → (f ≡ local → ⊥) → false ≡ goes_on a top local f
  unfolding goes_on
  goes_apart t x = let w = adopted_is ∙ t in rw (w, ne_eqb f local x)

  pub goes_same : r ≡ false → f ≡ local → not stray ≡ goes_on a top local f
  unfolding goes_on
  goes_same t x = let w = adopted_is ∙ t in let y : all (on a top) (aside a local) ≡ not stray = all_any (on a top) (aside a local) ∙ ap not z in rw (w, eq-eqb f local x, y)
