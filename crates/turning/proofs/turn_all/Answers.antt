-- `turning::turn_all` meets its contract.
use Rattle.turning.proofs.FrameLaws.{turns_all}
use Rattle.turning.proofs.turn_all.Goals as goal

pub returns : goal.returns
returns c = turns_all c.args.mem.now _ _ c.args.n c.args.turn c.args.top _ c.requires.0 c.line-k.ensures.only c.line-k.ensures.right c.pass.ensures
