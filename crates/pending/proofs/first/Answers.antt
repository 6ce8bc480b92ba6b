-- `pending::first` meets its contract: the contest of turns has the place that is next at its root.
use Rattle.pending.proofs.NextLaws.{first_done}
use Rattle.pending.proofs.first.Goals as goal

pub returns : goal.returns
returns c = λ s pend a. first_done c.args.mem.now _ _ (c.best.ensures a.tree) s pend a
