-- `releasing::release` meets its contract: the loop has looked at the first i of the listed places.
use Rattle.releasing.proofs.ReleaseLaws.{walk_more, walk_done}
use Rattle.releasing.proofs.release.Goals as goal

pub loop-i-preserved : goal.loop-i-preserved
loop-i-preserved c = walk_more _ _ _ _ _ _ c.loop-i.invariant c.at-p.ensures c.settle.ensures

pub returns : goal.returns
returns c =
    walk_done _ _ _ _ _ _ c.requires c.count-z.ensures c.loop-i.invariant c.loop-i-test.false c.clear.ensures
