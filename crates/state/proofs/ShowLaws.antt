-- The effective record at a place, as it is read off its row.
use mathlib.Core.Path.{◌≡◌, sym, ap, ◌∙◌}
use mathlib.Core.List.{List}
use mathlib.Core.Option.{Option, none, some}
use Prim.Native.Nat.{ℕ, ◌+◌, ◌<◌}
use Rattle.model.specs.Record as model
use Rattle.model.specs.Questions.{shown, as_block, block_at}
use Rattle.block.specs.Records.{header_means, copy_means, block_means}
use Rattle.block.specs.declared.Header.{Header}
use Rattle.block.specs.declared.Copy.{Copy}
use Rattle.memory.specs.Layout.{row}
use Rattle.rows.specs.Rows.{header_at, copy_at, held_at}
use Rattle.rows.specs.Written.{Stands}
use Rattle.state.specs.View.{cells_of}
use Rattle.state.specs.Sound.{Used}
use Rattle.state.proofs.FindLaws.{used_is, free_is}

module _ (m : List ℕ) (n p : ℕ) (l : p < n) where
  pub shows_free : (Used m p → ⊥) → shown none ≡ shown (block_at (cells_of m n p))
  shows_free f = ap (λ c. shown (block_at c)) (sym (free_is m n p l f))

  module _ (used : Used m p) (at : ℕ) (stands : Stands m (row p) at) where
    shows : (x : Option model.Copy) → x ≡ copy_at m at → shown (as_block (held_at m (row p)) x) ≡ shown (block_at (cells_of m n p))
    shows x e = ap (λ k. shown (as_block (held_at m (row p)) k)) (e ∙ sym stands.is) ∙ ap (λ c. shown (block_at c)) (sym (used_is m n p l used))

    pub shows_none : none ≡ copy_at m at → shown none ≡ shown (block_at (cells_of m n p))
    shows_none e = shows none e

    pub shows_copy : (h : Header) (k : Copy) → header_means h ≡ header_at m (row p + 4) → some (copy_means k) ≡ copy_at m at
        → shown (some (block_means (record { header = h; copy = k }))) ≡ shown (block_at (cells_of m n p))
    shows_copy h k e f = ap (λ (x : model.Header). shown (some (record { header = x; copy = copy_means k }))) e ∙ shows (some (copy_means k)) f
