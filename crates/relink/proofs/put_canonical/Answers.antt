-- `relink::put_canonical` meets its contract.
use Rattle.relink.proofs.PutLaws.{canonical_put}
use Rattle.relink.proofs.put_canonical.Goals as goal

pub returns : goal.returns
returns c = canonical_put _ _ _ c.read-old.result _ c.read-old.ensures _ c.same.ensures _ _ c.requires.1 c.write.ensures c.update.ensures c.if-same.false
