-- `choice::by_total` meets its contract. What `amount::compare` promises are the tests of the two works.
use mathlib.Core.Path.{◌∙◌}
use Rattle.amount.proofs.Promises.{on_less, on_equal, on_greater}
use Rattle.amount.specs.Value.{value}
use Rattle.block.specs.Answers.{choice_means}
use Rattle.choice.proofs.ChoiceLaws.{peer_work_lem, local_work_lem, same_work}
use Rattle.choice.proofs.by_total.Goals as goal

pub returns-in-Less : goal.returns-in-Less
returns-in-Less c = let a = c.args in c.adopt.ensures ∙ peer_work_lem (value a.local) (value a.peer) (choice_means a.rest) (on_less (value a.local) (value a.peer) c.compare.ensures c.in-Less.is)

pub returns-in-Greater : goal.returns-in-Greater
returns-in-Greater c = let a = c.args in c.keep.ensures ∙ local_work_lem (value a.local) (value a.peer) (choice_means a.rest) (on_greater (value a.local) (value a.peer) c.compare.ensures c.in-Greater.is)

pub returns-in-Equal : goal.returns-in-Equal
returns-in-Equal c = let a = c.args in same_work (value a.local) (value a.peer) (choice_means a.rest) (on_equal (value a.local) (value a.peer) c.compare.ensures c.in-Equal.is)
