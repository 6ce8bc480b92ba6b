-- `standing::meets` meets its contract. Each arm is one case of the definition.
use Rattle.standing.proofs.meets.Goals as goal

pub returns-in-Readable-actual-2 : goal.returns-in-Readable-actual-2
returns-in-Readable-actual-2 c = rw (c.in-Readable.is, c.in-Readable-actual-2.is) c.reaches.ensures
