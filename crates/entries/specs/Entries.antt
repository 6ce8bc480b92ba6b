-- Document 01, "The two plans": an entry is the hash with the two flags and the optional three as they stand after the plan. What the sixteen numbers of one mean.
use Rattle.std.specs.Prelude.{List, ◌≡◌, ℕ, ◌+◌, ℤ}
use Rattle.model.specs.Record.{Reason}
use Rattle.model.specs.Holding.{hash_of}
use Rattle.model.specs.Writes as model
use Rattle.hash.specs.Hashes.{join}
use Rattle.block.specs.Telling.{CopyTold}
use Rattle.block.specs.Words.{quad, copy_of}
use Rattle.memory.specs.Words.{word}
use Rattle.memory.specs.Layout.{row}
use Rattle.state.specs.View.{cells_of}
use Rattle.writing.specs.Meant.{code_copy}
use Rattle.entries.specs.declared.Entry.{Entry}

-- (A copy is always there; words that say there is none are a blank one.)
unfoldable pub entry_means : Entry → model.Entry
entry_means e = record {
  hash = join e.hash1 e.hash2 e.hash3 e.hash4;
  copy = model.or_blank (copy_of (quad e.state e.timed e.time e.why) (quad e.why1 e.why2 e.why3 e.why4) (quad e.rival1 e.rival2 e.rival3 e.rival4));
}

-- the sixteen numbers that tell an entry, each of them
pub record EntryTold (x : model.Entry) (e : Entry) : Type 0 where
  pub hash : join e.hash1 e.hash2 e.hash3 e.hash4 ≡ x.hash
  pub copy : CopyTold x.copy (quad e.state e.timed e.time e.why) (quad e.why1 e.why2 e.why3 e.why4) (quad e.rival1 e.rival2 e.rival3 e.rival4)

-- of the numbers that mean the same, those that tell it (boundary/proofs/ToldOnce.antt: there are no others)
abbrev pub Plain : Entry → Type 0
Plain e = EntryTold (entry_means e) e

-- the entry of the place p, by its code in the memory
unfoldable pub entry_of : List ℕ → ℕ → ℕ → ℤ → Reason → model.Entry
entry_of m n p clock reason = record { hash = hash_of (cells_of m n p); copy = code_copy clock reason (λ q. hash_of (cells_of m n q)) (word m (row p + 59)) (model.copy_of (cells_of m n p)) }
