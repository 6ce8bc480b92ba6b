-- `choice::covers` meets its contract. Each step is the model's.
use Rattle.choice.proofs.EpochLaws.{early, no_blocks, by_steps}
use Rattle.choice.proofs.covers.Goals as goal

pub returns-then-epoch-lt2 : goal.returns-then-epoch-lt2
returns-then-epoch-lt2 c = let a = c.args in early a.index a.epoch a.n c.if-epoch-lt2.true

pub returns-then-n-eq0 : goal.returns-then-n-eq0
returns-then-n-eq0 c = let a = c.args in no_blocks a.index a.epoch a.n c.if-epoch-lt2.false c.if-n-eq0.true

pub returns : goal.returns
returns c = let a = c.args in by_steps a.index a.epoch a.n c.if-epoch-lt2.false c.if-n-eq0.false c.times.ensures c.plus.ensures c.plus-2.ensures
