-- A row filled with a record, and a place that joins the indexes.
use mathlib.Core.Path.{◌≡◌, ap, ◌∙◌}
use mathlib.Core.List.{List}
use mathlib.Core.Option.{some}
use Prim.Native.Nat.{ℕ, ◌+◌, ◌*◌, ◌≤◌}
use native.Mathlib.Omega.{arith}
use Rattle.model.specs.Holding.{store_of, held, free, new_room, set_copy, kept}
use Rattle.block.specs.Records.{header_means, copy_means}
use Rattle.block.specs.declared.Header.{Header}
use Rattle.block.specs.declared.Copy.{Copy}
use Rattle.memory.specs.Words.{word}
use Rattle.memory.specs.Layout.{row, Laid}
use Rattle.index.specs.Writes.{Linked}
use Rattle.rows.specs.Rows.{held_at, cell_at}
use Rattle.rows.specs.Written.{Opened, Headed, Copied}
use Rattle.state.proofs.ViewLaws.{held_eq, header_same, copy_same}
use Rattle.state.proofs.SoundLaws.{laid_same}
use Rattle.places.specs.Admits.{Fills}
use Rattle.places.proofs.PlaceLaws.{row_cell}
use Rattle.places.proofs.StepLaws.{held_with}

module _ (m m₁ m₂ m₃ : List ℕ) (p k : ℕ) (l : k ≤ 2) (h : Header) (c : Copy) (opened : Opened m m₁ (row p)) (headed : Headed m₁ m₂ (row p + 4) h) (copied : Copied m₂ m₃ (row p + 20 + 12 * k) c) where
  -- before the copy goes in, the row is new room
  new_room_lem : held_at m₂ (row p) ≡ new_room (header_means h)
  new_room_lem =
      let a : word m₂ (row p + 1) ≡ 1 = headed.only (row p + 1) (omega arith) ∙ opened.answer in
      held_eq headed.is a
      (copy_same m₁ m₂ (row p + 20) (λ i x y. headed.only i (omega arith)) ∙ opened.active)
      (copy_same m₁ m₂ (row p + 32) (λ i x y. headed.only i (omega arith)) ∙ opened.forks)
      (copy_same m₁ m₂ (row p + 44) (λ i x y. headed.only i (omega arith)) ∙ opened.canon)

  used : word m₃ (row p) ≡ 1
  used = copied.only (row p) (omega arith) ∙ headed.only (row p) (omega arith) ∙ opened.used

  cell : cell_at m₃ p ≡ kept (store_of k) (record { header = header_means h; copy = copy_means c }) free
  unfolding kept
  cell = row_cell m₃ p used ∙ ap held (held_with m₂ m₃ (row p) k (some (copy_means c)) copied.is (λ a x. copied.only a x) l ∙ ap (set_copy (store_of k) (some (copy_means c))) new_room_lem)

  pub fill_done : Fills m m₃ p k h c
  fill_done = record {
    used = used;
    header = header_same m₂ m₃ (row p + 4) (λ a x y. copied.only a (omega arith)) ∙ headed.is;
    is = λ _. cell;
    only = λ a x y.
        copied.only a (λ u v. y (omega arith) (omega arith)) ∙ headed.only a (λ u v. y (omega arith) (omega arith))
        ∙ opened.only a (λ e. x (omega arith) (omega arith)) (λ e. x (omega arith) (omega arith)) (λ e. y (omega arith) (omega arith)) (λ e. y (omega arith) (omega arith)) (λ e. y (omega arith) (omega arith));
    long = copied.long ∙ headed.long ∙ opened.long;
  }

-- a link leaves the head alone
pub linked_laid : {m m' : List ℕ} {s base b x n : ℕ} → 64 ≤ base → Linked m m' s base b x → Laid m n → Laid m' n
linked_laid {m} {m'} {s} {base} {b} {x} {n} h k l = laid_same m m' n l (k.only 0 (omega arith)) (k.only 1 (omega arith)) k.long
