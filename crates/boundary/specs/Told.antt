-- What a question writes into the words that a host lends.
use Rattle.std.specs.Prelude.{ℕ, List, ◌≡◌, eqb, set}
use Rattle.std.proofs.Math.Option.{Option, none, some}
use Rattle.amount.specs.Amounts.{Amount}
use Rattle.amount.specs.Choose.{◌if◌else◌}
use Rattle.block.specs.Answers.{counted_number, shown_number, listed_number}
use Rattle.block.specs.Records.{block_means}
use Rattle.block.specs.Telling.{AmountIs, HeaderTold, CopyTold}
use Rattle.block.specs.declared.Block as block
use Rattle.block.specs.declared.Counted.{Counted}
use Rattle.block.specs.declared.Counted.TheVariants.{Count, Refused}
use Rattle.block.specs.declared.Shown.{Shown}
use Rattle.block.specs.declared.Shown.TheVariants.{Block as ShownBlock, None as ShownNone, Refused as ShownRefused}
use Rattle.block.specs.declared.Listed.{Listed}
use Rattle.block.specs.declared.Listed.TheVariants.{Count as ListedAt, None as ListNone, Refused as ListRefused}
use Rattle.holdings.specs.Asked.{Asked, Changes}
use Rattle.memory.specs.Words.{word, seg}
use Rattle.model.specs.Questions.{HoldingsQuestion, counted, shown}
use Rattle.model.specs.Record.{Header, Copy, Block}
use Rattle.rows.specs.Rows.{header_at, copy_at}

-- ---- counts ----

abbrev pub count_or : Counted → ℕ → ℕ
count_or (Count n) x = n
count_or (Refused y) x = x

-- the word that was x is what is answered, and stays as it was after a refusal
pub record CountTold (a : Counted) (x x' r : ℕ) : Type 0 where
  pub number_is : r ≡ counted_number a
  pub told : x' ≡ count_or a x

-- of any memory, a refusal leaves the word; of a sound one, number and count are the model's
pub record Counts (q : HoldingsQuestion) (m : List ℕ) (x x' r : ℕ) : Type 0 where
  pub refused : (r ≡ 0 → ⊥) → x' ≡ x
  pub asked : Asked q m r (counted x')

-- ---- blocks ----

abbrev pub with_copy : Header → Option Copy → Option Block
with_copy h none = none
with_copy h (some c) = some (record { header = h; copy = c })

-- what the words mean: none, or the block of a header's sixteen words and a copy's twelve
abbrev pub block_in : List ℕ → Option Block
block_in out = with_copy (header_at out 1) (copy_at out 17) if eqb (word out 0) 1 else none

-- the 29 words that tell a block, each of them (proofs/ToldOnce.antt: there are no others)
pub record BlockTold (b : Block) (out : List ℕ) : Type 0 where
  pub there : word out 0 ≡ 1
  pub header : HeaderTold b.header (seg out 1 4) (seg out 5 4) (seg out 9 4) (seg out 13 4)
  pub copy : CopyTold b.copy (seg out 17 4) (seg out 21 4) (seg out 25 4)

abbrev pub ToldIn : Option Block → List ℕ → Type 0
ToldIn none out = Unit {0}
ToldIn (some b) out = BlockTold b out

pub record BlockWritten (b : block.Block) (out : List ℕ) : Type 0 where
  pub is : block_in out ≡ some (block_means b)
  pub told : BlockTold (block_means b) out

-- of a block 29 words are written, of none the first, of a refusal nothing
abbrev pub ShownIn : Shown → List ℕ → List ℕ → Type 0
ShownIn (ShownBlock b) out out' = BlockWritten b out'
ShownIn ShownNone out out' = (out' ≡ set out 0 0) × (block_in out' ≡ none)
ShownIn (ShownRefused y) out out' = out' ≡ out

pub record ShownTold (a : Shown) (out out' : List ℕ) (r : ℕ) : Type 0 where
  pub number_is : r ≡ shown_number a
  pub told : ShownIn a out out'

-- of any memory, a refusal leaves the words, a block is told with the words that tell it, and where there is none all words but the first stay; of a sound one, number and block
-- are the model's
pub record Shows (q : HoldingsQuestion) (m out out' : List ℕ) (r : ℕ) : Type 0 where
  pub refused : (r ≡ 0 → ⊥) → out' ≡ out
  pub asked : Asked q m r (shown (block_in out'))
  pub block_told : r ≡ 0 → ToldIn (block_in out') out'
  pub none-shown : r ≡ 0 → block_in out' ≡ none → out' ≡ set out 0 0

-- ---- lists ----

-- 1 and how many, or 0 and 0
abbrev pub listed_in : Listed → List ℕ → List ℕ
listed_in (ListedAt n) out = set (set out 0 1) 1 n
listed_in ListNone out = set (set out 0 0) 1 0
listed_in (ListRefused y) out = out

pub record ListTold (a : Listed) (out out' : List ℕ) (r : ℕ) : Type 0 where
  pub number_is : r ≡ listed_number a
  pub told : out' ≡ listed_in a out

-- of any memory, a refusal leaves the words and the list; of a sound one, the number is the model's, and with 0 words and list are what changes are
pub record Lists (g v : ℕ) (m list list' out out' : List ℕ) (r : ℕ) : Type 0 where
  pub answer : Listed
  pub number_is : r ≡ listed_number answer
  pub told : out' ≡ listed_in answer out
  pub right : Changes g v m list list' answer

-- ---- amounts ----

-- as an amount of a shown block is told
pub record AmountTold (a : Amount) (out : List ℕ) : Type 0 where
  pub is : AmountIs a (word out 0) (word out 1) (word out 2)
