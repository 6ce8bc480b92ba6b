-- `relink::turn` meets its contract.
use Rattle.relink.proofs.TurnLaws.{turn_idle, turn_moved}
use Rattle.relink.proofs.turn.Goals as goal

pub returns-then-work_out : goal.returns-then-work_out
returns-then-work_out c = turn_moved _ _ _ _ _ _ c.requires.0 c.requires.1 c.drop.ensures c.work_out.ensures _ c.follow.ensures c.if-work_out.true

pub returns-else-work_out : goal.returns-else-work_out
returns-else-work_out c = turn_idle _ _ _ _ _ _ c.requires.0 c.requires.1 c.drop.ensures c.work_out.ensures c.if-work_out.false
