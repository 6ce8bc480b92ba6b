-- `arrivals::load_new` meets its contract.
use mathlib.Core.Path.{refl}
use Rattle.block.specs.Records.{block_means}
use Rattle.arrivals.proofs.StaleSteps.{stale_moves}
use Rattle.arrivals.proofs.PutLaws.{load_new}
use Rattle.arrivals.proofs.load_new.Goals as goal

pub returns : goal.returns
returns c = λ d l f. load_new c.args.mem.now c.args.n c.args.store (block_means c.args.b) d l c.args.p _ _ (stale_moves _ _ _ (c.admit.ensures (block_means c.args.b) refl).laid (record { now_is = refl })) f (c.admit.ensures (block_means c.args.b) refl)
