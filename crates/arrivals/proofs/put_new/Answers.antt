-- `arrivals::put_new` meets its contract.
use mathlib.Core.Path.{refl}
use Rattle.block.specs.Records.{block_means}
use Rattle.state.proofs.TouchSteps.{touch_moves}
use Rattle.arrivals.proofs.PutLaws.{put_last, put_new}
use Rattle.arrivals.proofs.put_new.Goals as goal

pub returns-then-mem : goal.returns-then-mem
returns-then-mem c = λ l f. put_last c.args.mem.now c.args.n c.args.store (block_means c.args.b) l (λ s. (f s).0) c.if-mem.true

pub touch-requires : goal.touch-requires
touch-requires c = (c.admit.ensures (block_means c.args.b) refl).laid

pub returns : goal.returns
returns c = λ l f. put_new c.args.mem.now c.args.n c.args.store (block_means c.args.b) l c.args.p _ _ c.if-mem.false (touch_moves _ _ _ _ (c.admit.ensures (block_means c.args.b) refl).laid c.touch.ensures) f (c.admit.ensures (block_means c.args.b) refl)
