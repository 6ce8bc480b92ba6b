-- Document 01, "Holding blocks": changes since a generation and a version, as they are counted and written into a lent list, whose places
-- are 32 bytes each.
use Rattle.std.specs.Prelude.{ℕ, zero, suc, ◌*◌, ◌-◌, ◌≤◌, ◌<◌, List, [], ◌∷◌, ◌++◌, ◌≡◌, length}
use Rattle.std.proofs.Math.Option.{Option, none, some}
use Rattle.std.proofs.lemmas.List.Edits.{sets}
use Rattle.amount.specs.Choose.{◌if◌else◌}
use Rattle.model.specs.Lists.{elem}
use Rattle.model.specs.Holding.{changes_in}
use Rattle.hash.specs.Digits.{bytes_of}
use Rattle.memory.specs.Words.{word}
use Rattle.journal.specs.Journal.{tab, slot_of, journal_of, Journaled}
use Rattle.journal.specs.declared.Had.{Had}
use Rattle.journal.specs.declared.Had.TheVariants.{None, Count}

-- r is the slot of the entry that i others followed
pub record Aged (m : List ℕ) (i r : ℕ) : Type 0 where
  pub below : r < word m 1
  pub is : word m 5 < word m 1 → i < word m 1 → r ≡ slot_of m i

-- r is the number of entries later than version v, where the ring can have that many
pub record Later (m : List ℕ) (v r : ℕ) : Type 0 where
  pub below : r ≤ word m 1
  pub is : v ≤ word m 3 → word m 3 - v ≤ word m 1 → r ≡ word m 3 - v

-- what the memory's journal has since (g, v)
abbrev pub changes_of : List ℕ → ℕ → ℕ → ℕ → Option (List ℕ)
changes_of m n g v = changes_in (word m 2) (word m 3) (journal_of m n) g v

-- none to be had, or how many
abbrev pub had_of : Option (List ℕ) → Had
had_of none = None
had_of (some l) = Count (length l)

-- of f (k - 1), .. f 0, those that no later one equals: where f is by age, the last touches, the oldest first
unfoldable pub lasts : (ℕ → ℕ) → ℕ → List ℕ
lasts f zero = []
lasts f (suc k) = lasts f k if elem (f k) (tab f k) else f k ∷ lasts f k

-- the bytes of hashes, 32 each
unfoldable pub bytes_of_all : List ℕ → List ℕ
bytes_of_all [] = []
bytes_of_all (x ∷ l) = bytes_of x ++ bytes_of_all l

-- a list that has places enough holds the changes in its first ones; the others stay as they were
pub record Writes (m : List ℕ) (n v : ℕ) (list list' : List ℕ) : Type 0 where
  pub long : length list' ≡ length list
  pub is : Journaled m n → (g : ℕ) (l : List ℕ) → changes_of m n g v ≡ some l → 32 * length l ≤ length list → list' ≡ sets list 0 (bytes_of_all l)
