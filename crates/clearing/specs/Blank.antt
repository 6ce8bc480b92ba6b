-- A memory made empty, whatever its words were: what it stands for, and what is left for a sync to find.
use Rattle.std.specs.Prelude.{false, List, [], ◌≡◌, ℕ, ◌+◌, ◌≤◌, ◌<◌, length}
use Rattle.model.specs.Holding.{free}
use Rattle.model.specs.Standing.{unlinked}
use Rattle.memory.specs.Words.{word}
use Rattle.memory.specs.Layout.{row, by_hash, nodes, leaves_at}
use Rattle.contest.specs.Tree.{WF, none}
use Rattle.contest.specs.Keys.{enters}
use Rattle.contest.specs.Contests as contest
use Rattle.journal.specs.Journal.{journal_of}
use Rattle.state.specs.View.{cells_of, values_of}
use Rattle.state.specs.Sound.{SoundAt}

-- what a sync keeps of the tree is nothing: no row says anything, the contests but that of free places have no member, there is no leaf
pub record Blank (m : List ℕ) (n : ℕ) : Type 0 where
  pub rows : (q k : ℕ) → q < n → k < 68 → word m (row q + k) ≡ 0
  pub entries : (k j : ℕ) → k < 5 → (k ≡ 3 → ⊥) → j < n → word m (nodes n k + j) ≡ none
  pub members : (k q : ℕ) → k < 5 → (k ≡ 3 → ⊥) → q < n → enters m k q ≡ false
  pub trees : (k : ℕ) → k < 5 → (k ≡ 3 → ⊥) → WF n (contest.view m n k)
  pub leaves : word m 14 ≡ 0

-- rows and counts are 0, no node has a place
pub record Swept (m m' : List ℕ) (n : ℕ) : Type 0 where
  pub long : length m' ≡ length m
  pub counts : (a : ℕ) → 11 ≤ a → a < 16 → word m' a ≡ 0
  pub rows : (a : ℕ) → 64 ≤ a → a < by_hash n → word m' a ≡ 0
  pub entries : (a : ℕ) → nodes n 0 ≤ a → a < leaves_at n → word m' a ≡ none
  pub only : (a : ℕ) → (11 ≤ a → a < 16 → ⊥) → (64 ≤ a → a < by_hash n → ⊥) → (nodes n 0 ≤ a → a < leaves_at n → ⊥) → word m' a ≡ word m a

-- all is empty; of the head, the rooms, generation and version, loading and fresh, and what was synced are as they were
pub record Wiped (m m' : List ℕ) (n : ℕ) : Type 0 where
  pub long : length m' ≡ length m
  pub head : (a : ℕ) → a < 11 → (4 ≤ a → a < 6 → ⊥) → word m' a ≡ word m a
  pub sound : SoundAt m' n
  pub cells : cells_of m' n ≡ (λ p. free)
  pub values : values_of m' n ≡ (λ w p. unlinked)
  pub journal : journal_of m' n ≡ []
  pub blank : Blank m' n
