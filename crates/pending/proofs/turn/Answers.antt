-- `pending::turn` meets its contract.
use mathlib.Core.Path.{sym, ◌∙◌}
use Rattle.pending.proofs.NextLaws.{turn_live}
use Rattle.pending.proofs.turn.Goals as goal

pub returns-then-live : goal.returns-then-live
returns-then-live c =
    turn_live c.args.mem.now c.args.n c.args.p c.requires.1 (sym c.live.ensures ∙ c.if-live.true)
