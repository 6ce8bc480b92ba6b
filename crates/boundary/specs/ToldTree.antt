-- What a question about the tree writes into the words that a host lends (document 01, "Standing in the tree", "Numbers given back"). Of any memory,
-- a refusal leaves the words; of a whole one, the number is the model's, and with 0 what is written is the model's reply.
use Rattle.std.specs.Prelude.{ℕ, List, ◌≡◌, set}
use Rattle.std.proofs.Math.Option.{none}
use Rattle.amount.specs.Choose.{◌if◌else◌}
use Rattle.amount.specs.Value as amount
use Rattle.amount.specs.Value.{from_words}
use Rattle.asking.specs.AskedTree.{AskedTree, Leaves}
use Rattle.block.specs.Answers.{worth_number, listed_number}
use Rattle.block.specs.declared.Listed.{Listed}
use Rattle.block.specs.declared.Shown.{Shown}
use Rattle.block.specs.declared.Shown.TheVariants.{Block as ShownBlock, None as ShownNone, Refused as ShownRefused}
use Rattle.block.specs.declared.Worth.{Worth}
use Rattle.block.specs.declared.Worth.TheVariants.{Linked, None as WorthNone, Refused as WorthRefused}
use Rattle.block.specs.declared.Tip.{Tip}
use Rattle.block.specs.declared.Tip.TheVariants.{Best, None as TipNone, Refused as TipRefused}
use Rattle.memory.specs.Words.{word}
use Rattle.model.specs.Questions.{TreeQuestion, counted, shown, worth, tip}
use Rattle.model.specs.Standing.{Value, unlinked, linked}
use Rattle.boundary.specs.Told.{block_in, ToldIn, listed_in, ShownTold}

-- ---- counts and blocks ----

pub record TreeCounts (q : TreeQuestion) (m : List ℕ) (x x' r : ℕ) : Type 0 where
  pub refused : (r ≡ 0 → ⊥) → x' ≡ x
  pub asked : AskedTree q m r (counted x')

-- a block is told with the words that tell it; where there is none to show, all words but the first stay
pub record TreeShows (q : TreeQuestion) (m out out' : List ℕ) (r : ℕ) : Type 0 where
  pub refused : (r ≡ 0 → ⊥) → out' ≡ out
  pub asked : AskedTree q m r (shown (block_in out'))
  pub block_told : r ≡ 0 → ToldIn (block_in out') out'
  pub none-shown : r ≡ 0 → block_in out' ≡ none → out' ≡ set out 0 0

-- ---- linked values ----

-- 1, or 2 where proofs are ok, and two words of work; three zeros for none
abbrev pub ValueIs : Value → ℕ → ℕ → ℕ → Type 0
ValueIs unlinked kind x y = (kind ≡ 0) × (x ≡ 0) × (y ≡ 0)
ValueIs (linked w ok) kind x y = (kind ≡ (2 if ok else 1)) × (from_words x y ≡ w)

pub record ValueTold (v : Value) (out : List ℕ) : Type 0 where
  pub is : ValueIs v (word out 0) (word out 1) (word out 2)

abbrev pub WorthIn : Worth → List ℕ → List ℕ → Type 0
WorthIn (Linked w ok) out out' = ValueTold (linked (amount.value w) ok) out'
WorthIn WorthNone out out' = ValueTold unlinked out'
WorthIn (WorthRefused y) out out' = out' ≡ out

pub record WorthTold (a : Worth) (out out' : List ℕ) (r : ℕ) : Type 0 where
  pub number_is : r ≡ worth_number a
  pub told : WorthIn a out out'

pub record TreeWorths (q : TreeQuestion) (m out out' : List ℕ) (r : ℕ) : Type 0 where
  pub refused : (r ≡ 0 → ⊥) → out' ≡ out
  pub value : Value
  pub asked : AskedTree q m r (worth value)
  pub told : r ≡ 0 → ValueTold value out'

-- ---- best blocks ----

-- a tip's block, and its value
abbrev pub tip_shown : Tip → Shown
tip_shown (Best b w ok) = ShownBlock b
tip_shown TipNone = ShownNone
tip_shown (TipRefused y) = ShownRefused y

abbrev pub tip_worth : Tip → Worth
tip_worth (Best b w ok) = Linked w ok
tip_worth TipNone = WorthNone
tip_worth (TipRefused y) = WorthRefused y

pub record TipTold (a : Tip) (out out' words words' : List ℕ) (r : ℕ) : Type 0 where
  pub block : ShownTold (tip_shown a) out out' r
  pub value : WorthTold (tip_worth a) words words' r

pub record TreeTips (q : TreeQuestion) (m out out' words words' : List ℕ) (r : ℕ) : Type 0 where
  pub refused : (r ≡ 0 → ⊥) → (out' ≡ out) × (words' ≡ words)
  pub value : Value
  pub asked : AskedTree q m r (tip (block_in out') value)
  pub block_told : r ≡ 0 → ToldIn (block_in out') out'
  pub none-shown : r ≡ 0 → block_in out' ≡ none → out' ≡ set out 0 0
  pub told : r ≡ 0 → ValueTold value words'

-- ---- leaves ----

-- with a number other than 0 memory, words and list stay; of a whole memory, it stays whole and stands for the same state
pub record TreeLists (m m' list list' out out' : List ℕ) (r : ℕ) : Type 0 where
  pub answer : Listed
  pub number_is : r ≡ listed_number answer
  pub told : out' ≡ listed_in answer out
  pub right : Leaves m m' list list' answer
