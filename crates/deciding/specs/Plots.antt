-- Document 01, "The two plans": what the core of a plan promises, select's and adopt's alike. On any memory it leaves all but the words that plans write. On a whole one
-- that a sync covers, it decides as the model does, its changes stand as codes by place, and the contest of listed leaves is empty again.
use Rattle.std.specs.Prelude.{List, ◌≡◌, ℕ}
use Rattle.std.proofs.Math.Option.{Option}
use Rattle.model.specs.Walks.{Asked}
use Rattle.model.specs.Writes.{Plan}
use Rattle.memory.specs.Words.{word}
use Rattle.relink.specs.Treed.{Listless}
use Rattle.asking.specs.Whole.{WholeAt}
use Rattle.walks.specs.Asking.{Asks}
use Rattle.writing.specs.Decides.{Decides, ScratchOnly}
use Rattle.writing.specs.declared.Decided.{Decided}

pub record Plots (plan : Asked → Plan) (m m' : List ℕ) (n : ℕ) (floor : Option ℕ) (per : ℕ) (x : Decided) : Type 0 where
  pub only : ScratchOnly m m' n
  pub listless : WholeAt m n → word m 7 ≡ 1 → Listless m' n
  pub right : WholeAt m n → word m 7 ≡ 1 → (a : Asked) → Asks a m n floor per → Decides (plan a) m m' n a.clock x
