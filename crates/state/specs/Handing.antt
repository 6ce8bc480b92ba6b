-- Document 01, "Numbers given back": what a question that hands out hashes answers and leaves in the lent list, whose places are 32 bytes each.
use Rattle.std.specs.Prelude.{List, ◌≡◌, ℕ, ◌/◌, length}
use Rattle.std.proofs.Math.Option.{Option, none, some}
use Rattle.std.proofs.lemmas.List.Edits.{sets}
use Rattle.block.specs.declared.Listed.{Listed}
use Rattle.block.specs.declared.Listed.TheVariants.{Count, None}
use Rattle.journal.specs.Changes.{bytes_of_all}

-- how many places the list has
abbrev pub places_in : List ℕ → ℕ
places_in list = length list / 32

-- none to be had, or how many
abbrev pub listed_of : Option (List ℕ) → Listed
listed_of none = None
listed_of (some l) = Count (length l)

-- the hashes stand in the first places; the others are as they were
abbrev pub handed : List ℕ → Option (List ℕ) → List ℕ
handed list none = list
handed list (some l) = sets list 0 (bytes_of_all l)

pub record Hands (list list' : List ℕ) (x : Listed) (l : Option (List ℕ)) : Type 0 where
  pub answer_is : x ≡ listed_of l
  pub list_is : list' ≡ handed list l
