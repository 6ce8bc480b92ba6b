-- `state::free_place` meets its contract: the contest of free places has the lowest at its root.
use Rattle.state.proofs.FindLaws.{free_place_lem}
use Rattle.state.proofs.free_place.Goals as goal

pub returns : goal.returns
returns c = λ s. free_place_lem c.args.mem.now _ _ (c.best.ensures s.free)
