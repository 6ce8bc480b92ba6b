-- Where each word of the lent memory lies, for n hashes and j journal entries (docs/MEMORY.md has the same table). Addresses are sums with
-- literal factors, so that they are linear; all are `abbrev`.
--
-- head, 64 words
--    0 hash room n            1 journal room j         2 generation               3 version
--    4 journal length         5 ring position          6 loading                  7 fresh
--    8 synced: 0 none, 1      9 its generation        10 its version             11 effective count
--   12 live count            13 canonical count       14 number of leaves        15 number of vacant places
--
-- row p, 68 words from 64 + 68 * p
--    0 used: 1, else free     1 answer                 2 position in vacant      3 turn (the key of the contest of turns)
--    4 hash, four words       8 previous hash, four   12 index, epoch, target kind, actual kind
--   16 target, actual, two words each                 20, 32, 44 the copies in active, forks, canon, twelve words each
--   .. and what a sync keeps of the tree:
--   56 winner value: kind, two words of work          59 is in the contest of turns
--   60 canonical value: kind, two words of work       63 is in the contest of listed leaves
--   64 linked children      65 of the plans          66 position in leaves     67 linked parent's place
--
-- columns of n words, after the rows
--   68 by hash: heads        69 next                  70 back
--   71 by previous hash: heads                        72 next                    73 back
--   74 contest nodes: winner 75 canonical             76 turns                   77 free places             78 listed leaves
--   79 leaves                80 vacant
--
-- journal, after the columns
--   entries of five words: hash, four words; touched later
--   then three columns of j words: by hash of the last touch, heads, next, back
use Rattle.std.specs.Prelude.{ℕ, ◌+◌, ◌*◌, ◌≤◌, Bool, List, ◌≡◌, length}
use Rattle.amount.specs.Choose.{◌if◌else◌}
use Rattle.model.specs.Numbers.{hash_limit, journal_limit}
use Rattle.memory.specs.Words.{word}

-- ---- regions ----

abbrev pub row : ℕ → ℕ
row p = 64 + 68 * p

abbrev pub by_hash : ℕ → ℕ
by_hash n = 64 + 68 * n

abbrev pub by_prev : ℕ → ℕ
by_prev n = 64 + 71 * n

-- the nodes of contest k, which is below 5
abbrev pub nodes : ℕ → ℕ → ℕ
nodes n k = 64 + 74 * n + k * n

abbrev pub leaves_at : ℕ → ℕ
leaves_at n = 64 + 79 * n

abbrev pub vacant_at : ℕ → ℕ
vacant_at n = 64 + 80 * n

abbrev pub ring : ℕ → ℕ
ring n = 64 + 81 * n

abbrev pub by_touch : ℕ → ℕ → ℕ
by_touch n j = 64 + 81 * n + 5 * j

-- ---- the formula ----

-- Words that room for n hashes and j journal entries needs.
abbrev pub need : ℕ → ℕ → ℕ
need n j = 64 + 81 * n + 8 * j

-- The head names rooms that fit: what a call tests of any memory, so that it stays in bounds whatever the other words hold.
pub record Laid (m : List ℕ) (n : ℕ) : Type 0 where
  pub room : word m 0 ≡ n
  pub some : 1 ≤ n
  pub few : n ≤ hash_limit
  pub some_j : 1 ≤ word m 1
  pub few_j : word m 1 ≤ journal_limit
  pub fits : need n (word m 1) ≤ length m

-- ---- strides ----

-- What is indexed by a key of four words: places, whose keys stand in rows, or the journal's slots, whose keys stand in entries.
abbrev pub strided : Bool → ℕ → ℕ
strided entries x = 5 * x if entries else 68 * x
