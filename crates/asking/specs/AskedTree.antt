-- What a question about the tree promises (document 01, "Numbers given back"): its number and, with 0, its reply are the model's.
use Rattle.std.specs.Prelude.{List, ◌≡◌, ℕ}
use Rattle.std.proofs.Math.Option.{some}
use Rattle.model.specs.Questions.{TreeQuestion, leaves_q, leaves, Reply, tree_reply}
use Rattle.model.specs.Standing.{winner}
use Rattle.model.specs.Numbers.{ask_tree}
use Rattle.block.specs.Answers.{listed_number}
use Rattle.block.specs.declared.Listed.{Listed}
use Rattle.memory.specs.Words.{word}
use Rattle.state.specs.View.{view, view_at}
use Rattle.state.specs.Handing.{places_in, Hands}
use Rattle.asking.specs.Whole.{Whole, WholeAt}

pub record AskedTree (q : TreeQuestion) (m : List ℕ) (r : ℕ) (y : Reply) : Type 0 where
  pub number_is : Whole m → r ≡ ask_tree q (view m)
  pub reply_is : Whole m → r ≡ 0 → y ≡ tree_reply (view m).holdings (view m).values q

-- Leaves, at the room n. The list is written through words of the memory that nothing else reads. Whatever the memory, a refusal leaves it and
-- the list; of a whole one, it stays whole and stands for the same state, the number is the model's, and with 0 the answer and the list are the leaves.
pub record LeavesAt (m m' : List ℕ) (n : ℕ) (list list' : List ℕ) (x : Listed) : Type 0 where
  pub refused : (listed_number x ≡ 0 → ⊥) → (m' ≡ m) × (list' ≡ list)
  pub whole : WholeAt m n → WholeAt m' n
  pub view : WholeAt m n → view_at m' n ≡ view_at m n
  pub number_is : WholeAt m n → listed_number x ≡ ask_tree (leaves_q (places_in list)) (view_at m n)
  pub right : WholeAt m n → listed_number x ≡ 0 → Hands list list' x (some (leaves (view_at m n).holdings ((view_at m n).values winner)))

abbrev pub Leaves : List ℕ → List ℕ → List ℕ → List ℕ → Listed → Type 0
Leaves m m' list list' x = LeavesAt m m' (word m 0) list list' x
