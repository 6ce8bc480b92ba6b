-- What a question about the holdings promises: of a sound memory, its number and its reply are the model's.
use Rattle.std.specs.Prelude.{List, ◌≡◌, ℕ}
use Rattle.model.specs.Holding.{changes_since}
use Rattle.model.specs.Questions.{HoldingsQuestion, changes_q, Reply, holdings_reply}
use Rattle.model.specs.Numbers.{ask_holdings}
use Rattle.block.specs.Answers.{listed_number}
use Rattle.block.specs.declared.Listed.{Listed}
use Rattle.memory.specs.Words.{word}
use Rattle.state.specs.View.{view, view_at}
use Rattle.state.specs.Sound.{Sound, SoundAt}
use Rattle.state.specs.Handing.{places_in, Hands}

pub record Asked (q : HoldingsQuestion) (m : List ℕ) (r : ℕ) (y : Reply) : Type 0 where
  pub number_is : Sound m → r ≡ ask_holdings q (view m)
  pub reply_is : Sound m → y ≡ holdings_reply (view m).holdings q

-- Changes since (g, v), at the room n. Whatever the memory, a refusal leaves the lent list; of a sound one, the number is the model's, and
-- with 0 the answer and the list are what changes are.
pub record ChangesAt (g v : ℕ) (m : List ℕ) (n : ℕ) (list list' : List ℕ) (x : Listed) : Type 0 where
  pub refused : (listed_number x ≡ 0 → ⊥) → list' ≡ list
  pub number_is : SoundAt m n → listed_number x ≡ ask_holdings (changes_q g v (places_in list)) (view_at m n)
  pub right : SoundAt m n → listed_number x ≡ 0 → Hands list list' x (changes_since (view_at m n).holdings g v)

abbrev pub Changes : ℕ → ℕ → List ℕ → List ℕ → List ℕ → Listed → Type 0
Changes g v m list list' x = ChangesAt g v m (word m 0) list list' x
