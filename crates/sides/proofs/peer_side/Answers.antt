-- `sides::peer_side` meets its contract.
use mathlib.Core.Path.{◌∙◌}
use Rattle.sides.proofs.PeerLaws.{peer_used, peer_is}
use Rattle.sides.proofs.peer_side.Goals as goal

pub returns : goal.returns
returns c k h v leaf local p l u j =
    let a = c.args in
    c.side_at.ensures (peer_used k leaf local a.f a.top a.meets p l j a.mem.now a.n h v u) ∙ peer_is k leaf local a.f a.top a.meets p l j a.mem.now a.n h v
