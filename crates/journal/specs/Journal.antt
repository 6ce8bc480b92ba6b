-- Document 01, "Holding blocks": the journal as it stands in a memory for n hashes. Slots of five words at `ring n` hold the newest
-- entries; word 5 is the slot that the next one goes to, word 4 how many there are. An entry is four words of hash and a flag, which is
-- 1 if its hash was touched again later. The slots of last touches stand in an index by hash, at `by_touch`.
use Rattle.std.specs.Prelude.{ℕ, zero, suc, ◌+◌, ◌*◌, ◌-◌, ◌≤◌, ◌<◌, Bool, true, false, not, List, [], ◌∷◌, ◌≡◌, eqb, ltb}
use Rattle.amount.specs.Choose.{◌if◌else◌}
use Rattle.model.specs.Lists.{elem}
use Rattle.block.specs.Words.{hash_of}
use Rattle.memory.specs.Words.{word, seg}
use Rattle.memory.specs.Layout.{ring, by_touch}
use Rattle.index.specs.Keys.{key_at}
use Rattle.index.specs.Index.{Keyed}

-- f 0, f 1, .. : k of them
unfoldable pub tab : (ℕ → ℕ) → ℕ → List ℕ
tab f zero = []
tab f (suc k) = f 0 ∷ tab (λ i. f (suc i)) k

-- the hash of a group of four words, as one number that stays shut
unfoldable pub joined : (ℕ → ℕ) → ℕ
joined s = hash_of s

-- of j slots in a ring, the one that is i before the newest, where the next entry goes to `at`
abbrev pub back : ℕ → ℕ → ℕ → ℕ
back j at i = at - suc i if ltb i at else at + j - suc i

-- ---- a slot ----

abbrev pub entry_at : List ℕ → ℕ → ℕ → ℕ
entry_at m n e = joined (seg m (ring n + 5 * e) 4)

-- its hash was touched again later
abbrev pub later_at : List ℕ → ℕ → ℕ → Bool
later_at m n e = eqb (word m (ring n + 5 * e + 4)) 1

-- ---- an entry, by its age ----

-- the slot of the touch that i others followed
abbrev pub slot_of : List ℕ → ℕ → ℕ
slot_of m i = back (word m 1) (word m 5) i

abbrev pub touched_at : List ℕ → ℕ → ℕ → ℕ
touched_at m n i = entry_at m n (slot_of m i)

-- the hashes touched, newest first
abbrev pub journal_of : List ℕ → ℕ → List ℕ
journal_of m n = tab (touched_at m n) (word m 4)

-- it is the last touch of its hash, by its flag
abbrev pub last_at : List ℕ → ℕ → ℕ → Bool
last_at m n i = not (later_at m n (slot_of m i))

-- ---- the invariant ----

-- slot e holds a last touch
pub record Last (m : List ℕ) (n e : ℕ) : Type 0 where
  pub age : ℕ
  pub young : age < word m 4
  pub here : slot_of m age ≡ e
  pub unflagged : later_at m n e ≡ false

-- the index of last touches, over j slots
abbrev pub Indexed : List ℕ → ℕ → ℕ → Type 0
Indexed m n j = Keyed m j (by_touch n j) (key_at m (ring n) true) (Last m n)

pub record Journaled (m : List ℕ) (n : ℕ) : Type 0 where
  pub turn : word m 5 < word m 1
  pub short : word m 4 ≤ word m 1
  pub flags : (i : ℕ) → i < word m 4 → later_at m n (slot_of m i) ≡ elem (touched_at m n i) (tab (touched_at m n) i)
  pub index : Indexed m n (word m 1)
