-- The chain that ends at a place.
use mathlib.Core.Path.{◌≡◌, sym, ap, ◌∙◌}
use mathlib.Core.List.{List}
use Prim.Native.Nat.{ℕ, ◌+◌, ◌<◌}
use Rattle.memory.specs.Layout.{row}
use Rattle.rows.specs.Rows.{header_at}
use Rattle.model.specs.Record.{Header}
use Rattle.model.specs.Holding.{Holdings, index_of, hash_of}
use Rattle.model.specs.Standing.{Spine, Value, Values}
use Rattle.model.specs.Comparing.{Work}
use Rattle.model.specs.Walks.{Asked}
use Rattle.model.specs.Select.{scored, side_of}
use Rattle.state.specs.Sound.{Used}
use Rattle.state.specs.View.{values_of, view_at}
use Rattle.state.proofs.FindLaws.{used_is}

module _ (m : List ℕ) (n p : ℕ) (p<n : p < n) where
  pub side_is : (w : Spine) (b : Work) (v : Value) (h : Header) → h ≡ header_at m (row p + 4) → b ≡ scored v → v ≡ values_of m n w p
      → Used m p → (a : Asked) → a.holdings ≡ (view_at m n).holdings → a.values ≡ (view_at m n).values → record { work = b; index = h.index; hash = h.hash } ≡ side_of a w p
  unfolding view_at
  side_is w b v h z s y u a e g =
      let i : index_of (a.holdings.cells p) ≡ h.index = ap (λ (h : Holdings). index_of (h.cells p)) e ∙ ap index_of (used_is m n p p<n u) ∙ ap (λ (h : Header). h.index) (sym z) in
      let j : hash_of (a.holdings.cells p) ≡ h.hash = ap (λ (h : Holdings). hash_of (h.cells p)) e ∙ ap hash_of (used_is m n p p<n u) ∙ ap (λ (h : Header). h.hash) (sym z) in
      let k : scored (a.values w p) ≡ b = ap (λ (v : Values). scored (v w p)) g ∙ ap scored (sym y) ∙ sym s in
      rw (i, j, k)
