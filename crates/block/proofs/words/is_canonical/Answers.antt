-- `block::words::is_canonical` meets its contract. Where there is no copy, no flag is set.
use Rattle.block.proofs.words.is_canonical.Goals as goal

pub returns-then-state-eq0 : goal.returns-then-state-eq0
returns-then-state-eq0 c = rw c.if-state-eq0.true
