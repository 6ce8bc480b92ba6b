-- `places::status` meets its contract.
use Rattle.places.proofs.StatusLaws.{says}
use Rattle.places.proofs.status.Goals as goal

pub returns : goal.returns
returns c = says c.args.mem.now c.args.at _ c.effective_at-r.ensures
