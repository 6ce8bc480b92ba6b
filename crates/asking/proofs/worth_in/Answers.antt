-- `asking::worth_in` meets its contract.
use mathlib.Core.Path.{◌≡◌, subst}
use Rattle.model.specs.Standing.{value_at}
use Rattle.values.specs.Values.{spine_of, value_means}
use Rattle.state.specs.View.{values_of}
use Rattle.state.specs.Sound.{placed}
use Rattle.asking.proofs.TreeAskLaws.{worths}
use Rattle.asking.proofs.worth_in.Goals as goal

pub returns-in-None : goal.returns-in-None
returns-in-None c =
    let a = c.args in
    worths _ _ _ _ c.find-p.ensures (spine_of a.canonical) _
    (subst (λ k. value_means k ≡ value_at (values_of a.mem.now a.n (spine_of a.canonical)) (placed a.n c.find-p.result)) c.in-None.is c.value_at.ensures)

pub returns-in-Linked : goal.returns-in-Linked
returns-in-Linked c =
    let a = c.args in
    worths _ _ _ _ c.find-p.ensures (spine_of a.canonical) _
    (subst (λ k. value_means k ≡ value_at (values_of a.mem.now a.n (spine_of a.canonical)) (placed a.n c.find-p.result)) c.in-Linked.is c.value_at.ensures)
