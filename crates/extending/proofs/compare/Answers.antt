-- `extending::compare` meets its contract: both sides are the model's.
use mathlib.Core.Path.{◌∙◌}
use Rattle.extending.proofs.compare.Goals as goal

pub returns : goal.returns
returns c s u w k h v st leaf p l ul j =
    let a = c.args in
    c.choose.ensures ∙ rw (c.our_side-ours.ensures s u w k h v st, c.peer_side-theirs.ensures k h v leaf a.local p l ul j)
