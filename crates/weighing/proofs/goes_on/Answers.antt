-- `weighing::goes_on` meets its contract.
use Rattle.weighing.proofs.DecideLaws.{goes_adopted, goes_apart, goes_same}
use Rattle.weighing.proofs.goes_on.Goals as goal

pub returns-then-adopted : goal.returns-then-adopted
returns-then-adopted c = λ ut ul x e g z. let a = c.args in goes_adopted x a.top a.local a.f a.stray z _ _ (c.side-ours.ensures ul x e g) (c.side-theirs.ensures ut x e g) _ c.choose.ensures _ c.adopted.ensures c.if-adopted.true

pub returns-then-f-local : goal.returns-then-f-local
returns-then-f-local c = λ ut ul x e g z. let a = c.args in goes_apart x a.top a.local a.f a.stray z _ _ (c.side-ours.ensures ul x e g) (c.side-theirs.ensures ut x e g) _ c.choose.ensures _ c.adopted.ensures c.if-adopted.false c.if-f-local.true

pub returns : goal.returns
returns c = λ ut ul x e g z. let a = c.args in goes_same x a.top a.local a.f a.stray z _ _ (c.side-ours.ensures ul x e g) (c.side-theirs.ensures ut x e g) _ c.choose.ensures _ c.adopted.ensures c.if-adopted.false c.if-f-local.false
