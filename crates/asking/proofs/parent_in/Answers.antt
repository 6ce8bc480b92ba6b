-- `asking::parent_in` meets its contract.
use mathlib.Core.Path.{sym, ◌∙◌}
use Rattle.asking.proofs.TreeAskLaws.{parent_out, parent_dead, parent_there}
use Rattle.asking.proofs.parent_in.Goals as goal

pub returns-then-n-p : goal.returns-then-n-p
returns-then-n-p c = parent_out _ _ _ _ c.find-p.ensures c.if-n-p.true

pub returns-then-not-live : goal.returns-then-not-live
returns-then-not-live c = parent_dead _ _ _ _ c.find-p.ensures c.if-n-p.false (sym c.live.ensures ∙ c.if-not-live.true)

pub returns : goal.returns
returns c =
    parent_there _ _ _ _ c.find-p.ensures c.if-n-p.false
    (sym c.live.ensures ∙ c.if-not-live.false) _ c.parent-q.ensures
    _ _ c.show_live.ensures.number c.show_live.ensures.reply
