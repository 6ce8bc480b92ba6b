-- Document 01, "The two plans": the list that the host lends, as words: sixteen for each entry, in the order of the struct's numbers. Words past the last whole entry are no
-- place of the list.
use Rattle.std.specs.Prelude.{List, [], ◌∷◌, ◌≡◌, ℕ, zero, suc, ◌+◌, ◌*◌, ◌/◌, ◌≤◌, ◌<◌, length, ℤ, pos}
use Rattle.model.specs.Record.{Reason}
use Rattle.block.specs.declared.Time.{Time}
use Rattle.block.specs.declared.Time.TheVariants.{None, At}
use Rattle.memory.specs.Words.{word}
use Rattle.entries.specs.declared.Entry.{Entry}
use Rattle.entries.specs.Handing.{HandsOut}

unfoldable pub entry_from : List ℕ → ℕ → Entry
entry_from l at = record {
  hash1 = word l at;
  hash2 = word l (at + 1);
  hash3 = word l (at + 2);
  hash4 = word l (at + 3);
  state = word l (at + 4);
  timed = word l (at + 5);
  time = word l (at + 6);
  why = word l (at + 7);
  why1 = word l (at + 8);
  why2 = word l (at + 9);
  why3 = word l (at + 10);
  why4 = word l (at + 11);
  rival1 = word l (at + 12);
  rival2 = word l (at + 13);
  rival3 = word l (at + 14);
  rival4 = word l (at + 15);
}

unfoldable pub tabled : (ℕ → Entry) → ℕ → List Entry
tabled f zero = []
tabled f (suc k) = f 0 ∷ tabled (λ i. f (suc i)) k

-- how many places the list has
abbrev pub places_in : List ℕ → ℕ
places_in l = length l / 16

abbrev pub entries_in : List ℕ → List Entry
entries_in l = tabled (λ i. entry_from l (16 * i)) (places_in l)

-- one entry is put at `at`, and nothing else changes
pub record Put (l l' : List ℕ) (at : ℕ) (e : Entry) : Type 0 where
  pub is : entry_from l' at ≡ e
  pub only : (i : ℕ) → (at ≤ i → i < at + 16 → ⊥) → word l' i ≡ word l i
  pub long : length l' ≡ length l

-- the first k places may change, nothing else
pub record FirstOnly (l l' : List ℕ) (k : ℕ) : Type 0 where
  pub long : length l' ≡ length l
  pub rest : (i : ℕ) → 16 * k ≤ i → word l' i ≡ word l i

-- the clock, of a time that has one
abbrev pub clock_of : Time → ℤ
clock_of None = pos 0
clock_of (At clock) = clock

-- the entries of a plan go into the list, k of them: what handing out promises, of the list as entries
pub record WritesOut (m m' : List ℕ) (n : ℕ) (clock : ℤ) (reason : Reason) (list list' : List ℕ) (k : ℕ) : Type 0 where
  pub hands : HandsOut m m' n clock reason (entries_in list) (entries_in list') k
  pub only : FirstOnly list list' k
