-- `choice::choose` meets its contract. Each arm is one case of the definition.
use mathlib.Core.Path.{sym, ap, ◌∙◌}
use Rattle.block.specs.Answers.{side_means, work_means}
use Rattle.choice.proofs.ChoiceLaws.{same_hash, both_unknown_lem, only_peer, only_local, both_known}
use Rattle.choice.proofs.choose.Goals as goal

pub returns-then-same : goal.returns-then-same
returns-then-same c = let a = c.args in let us = side_means a.local in let them = side_means a.peer in same_hash us them (sym c.same.ensures ∙ c.if-same.true)

pub returns-in-Known-theirs : goal.returns-in-Known-theirs
returns-in-Known-theirs c = let a = c.args in let us = side_means a.local in let them = side_means a.peer in c.by_total.ensures ∙ rw c.by_tip.ensures (both_known us them (sym c.same.ensures ∙ c.if-same.false) (ap work_means c.in-Known.is) (ap work_means c.in-Known-theirs.is))

pub returns-in-Unknown-theirs : goal.returns-in-Unknown-theirs
returns-in-Unknown-theirs c = let a = c.args in let us = side_means a.local in let them = side_means a.peer in c.keep.ensures ∙ only_local us them (sym c.same.ensures ∙ c.if-same.false) (ap work_means c.in-Known.is) (ap work_means c.in-Unknown-theirs.is)

pub returns-in-Known-theirs-2 : goal.returns-in-Known-theirs-2
returns-in-Known-theirs-2 c = let a = c.args in let us = side_means a.local in let them = side_means a.peer in c.adopt.ensures ∙ only_peer us them (sym c.same.ensures ∙ c.if-same.false) (ap work_means c.in-Unknown.is) (ap work_means c.in-Known-theirs-2.is)

pub returns-in-Unknown-theirs-2 : goal.returns-in-Unknown-theirs-2
returns-in-Unknown-theirs-2 c = let a = c.args in let us = side_means a.local in let them = side_means a.peer in c.keep-in-Unknown-theirs-2.ensures ∙ both_unknown_lem us them (sym c.same.ensures ∙ c.if-same.false) (ap work_means c.in-Unknown.is) (ap work_means c.in-Unknown-theirs-2.is)
