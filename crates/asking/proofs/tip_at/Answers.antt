-- `asking::tip_at` meets its contract.
use mathlib.Core.Path.{◌≡◌, subst}
use Rattle.model.specs.Standing.{value_at}
use Rattle.model.specs.Questions.{shown, live_at}
use Rattle.block.specs.Answers.{shown_reply}
use Rattle.values.specs.Values.{spine_of, value_means}
use Rattle.state.specs.View.{values_of, view_at}
use Rattle.state.specs.Sound.{placed}
use Rattle.asking.proofs.BestLaws.{tip-unlinked, tip_unshown, tip-shown}
use Rattle.asking.proofs.tip_at.Goals as goal

pub returns-in-None : goal.returns-in-None
returns-in-None c =
    let a = c.args in
    tip-unlinked a.mem.now a.n a.p (spine_of a.canonical)
    (subst (λ k. value_means k ≡ value_at (values_of a.mem.now a.n (spine_of a.canonical)) (placed a.n a.p)) c.in-None.is c.value_at.ensures)

pub returns-in-None-show_live : goal.returns-in-None-show_live
returns-in-None-show_live c =
    let a = c.args in
    tip_unshown a.mem.now a.n a.p (spine_of a.canonical)
    (subst (λ k. shown_reply k ≡ shown (live_at (view_at a.mem.now a.n).holdings (placed a.n a.p))) c.in-None-show_live.is c.show_live.ensures.reply)

pub returns-in-Block : goal.returns-in-Block
returns-in-Block c =
    let a = c.args in
    tip-shown a.mem.now a.n a.p (spine_of a.canonical) _ _
    (subst (λ k. shown_reply k ≡ shown (live_at (view_at a.mem.now a.n).holdings (placed a.n a.p))) c.in-Block.is c.show_live.ensures.reply)
    (subst (λ k. value_means k ≡ value_at (values_of a.mem.now a.n (spine_of a.canonical)) (placed a.n a.p)) c.in-Linked.is c.value_at.ensures)

pub returns-in-Refused : goal.returns-in-Refused
returns-in-Refused c =
    let a = c.args in
    tip_unshown a.mem.now a.n a.p (spine_of a.canonical)
    (subst (λ k. shown_reply k ≡ shown (live_at (view_at a.mem.now a.n).holdings (placed a.n a.p))) c.in-Refused.is c.show_live.ensures.reply)
