-- What the inner functions of the questions promise: what refuses a question; and at the room n, that the number is 0, and that in a fresh whole
-- memory the reply is the model's.
use Rattle.std.specs.Prelude.{List, ◌≡◌, ℕ, ◌<◌, true}
use Rattle.model.specs.Holding.{Holdings, is_live, place_of}
use Rattle.model.specs.Standing.{Spine, Values, is_linked, value_at, best}
use Rattle.model.specs.Questions.{TreeQuestion, Reply, worth, tip, live_at, tree_reply}
use Rattle.block.specs.Answers.{refusal_number}
use Rattle.memory.specs.Words.{word}
use Rattle.memory.specs.Layout.{Laid}
use Rattle.state.specs.View.{cells_of, values_of, view_at}
use Rattle.state.specs.Sound.{placed}
use Rattle.asking.specs.Whole.{Whole, WholeAt}
use Rattle.asking.specs.declared.Begun.{Begun}
use Rattle.asking.specs.declared.Begun.TheVariants.{No, At}

-- A question is refused: a whole memory refuses with 12 alone, where no sync covers the present. Else one does, and the room is n.
abbrev pub Begins : List ℕ → Begun → Type 0
Begins m (No r) = Whole m → (refusal_number r ≡ 12) × (word m 7 ≡ 1 → ⊥)
Begins m (At n) = Laid m n × (word m 7 ≡ 1)

pub record Answers (q : TreeQuestion) (m : List ℕ) (n : ℕ) (r : ℕ) (y : Reply) : Type 0 where
  pub number_is : r ≡ 0
  pub reply_is : WholeAt m n → word m 7 ≡ 1 → y ≡ tree_reply (view_at m n).holdings (view_at m n).values q

-- the value on a spine of a place that may be none, and the best of a spine, as replies
abbrev pub worth_of : Holdings → Values → Spine → ℕ → Reply
worth_of h v w x = worth (value_at (v w) (place_of h x))

abbrev pub best_of : Holdings → Values → Spine → Reply
best_of h v w = tip (live_at h (best h (v w))) (value_at (v w) (best h (v w)))

pub record Worths (w : Spine) (m : List ℕ) (n x : ℕ) (r : ℕ) (y : Reply) : Type 0 where
  pub number_is : r ≡ 0
  pub reply_is : WholeAt m n → y ≡ worth_of (view_at m n).holdings (view_at m n).values w x

pub record Bests (w : Spine) (m : List ℕ) (n : ℕ) (r : ℕ) (y : Reply) : Type 0 where
  pub number_is : r ≡ 0
  pub reply_is : WholeAt m n → word m 7 ≡ 1 → y ≡ best_of (view_at m n).holdings (view_at m n).values w

-- a place that may be none, with its value; a linked place must be live
pub record Tips (w : Spine) (m : List ℕ) (n p : ℕ) (r : ℕ) (y : Reply) : Type 0 where
  pub number_is : r ≡ 0
  pub reply_is : (p < n → is_linked (values_of m n w p) ≡ true) → (p < n → is_live (cells_of m n p) ≡ true) → y ≡ tip (live_at (view_at m n).holdings (placed n p)) (value_at (values_of m n w) (placed n p))

-- the best of a spine stands at p, a number from n on where there is none; where there is one, it is linked and live
pub record Top (w : Spine) (m : List ℕ) (n p : ℕ) : Type 0 where
  pub best_is : best (view_at m n).holdings (values_of m n w) ≡ placed n p
  pub linked : p < n → is_linked (values_of m n w p) ≡ true
  pub live : p < n → is_live (cells_of m n p) ≡ true
