-- `turning::pass` meets its contract. The loop has passed i places.
use native.Mathlib.Omega.{arith}
use Rattle.turning.proofs.PassLaws.{passing_more, passing_done}
use Rattle.turning.proofs.pass.Goals as goal

pub loop-i-preserved : goal.loop-i-preserved
loop-i-preserved c = let l = c.loop-i in passing_more c.args.mem.now c.args.n c.args.turn c.args.top c.args.k l.mem _ l.i _ c.requires.0 (omega arith) l.invariant c.turned-c.ensures c.put.ensures

pub returns : goal.returns
returns c = let l = c.loop-i in passing_done c.args.mem.now c.args.n c.args.turn c.args.top c.args.k l.mem l.i (omega arith) l.invariant
