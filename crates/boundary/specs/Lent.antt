-- Bytes and words that a host lends, as parts of the model (document 01, "Taken from the repository" and "Amounts"): a hash is 32 bytes, an amount a text, what a
-- store keeps beside the header twelve words (docs/MEMORY.md). Total: any bytes and any words mean something.
use Rattle.std.specs.Prelude.{ℕ, false, List}
use Rattle.std.proofs.Math.Option.{Option, none, some}
use Rattle.amount.specs.Amounts.{reading}
use Rattle.hash.specs.Digits.{bytes_number}
use Rattle.model.specs.Record.{Header, Copy, Block}
use Rattle.rows.specs.Rows.{copy_at}

-- no flag, and none of the optional three
abbrev pub plain : Copy
plain = record { orphaned = false; canonical = false; time = none; reason = none; competing = none }

abbrev pub or_plain : Option Copy → Copy
or_plain none = plain
or_plain (some c) = c

-- twelve words as they stand in a memory; the state word 0, which there is no copy, is a plain one
abbrev pub copy_meant : List ℕ → Copy
copy_meant words = or_plain (copy_at words 0)

abbrev pub header_meant : List ℕ → ℕ → ℕ → List ℕ → List ℕ → List ℕ → Header
header_meant hash index epoch prev target actual = record { hash = bytes_number hash; index = index; epoch = epoch; prev = bytes_number prev; target = reading target; actual = reading actual }

-- hash, index, epoch, previous hash, the texts of target and actual, and the copy's words
abbrev pub block_meant : List ℕ → ℕ → ℕ → List ℕ → List ℕ → List ℕ → List ℕ → Block
block_meant hash index epoch prev target actual copy = record { header = header_meant hash index epoch prev target actual; copy = copy_meant copy }
