-- `standing::one_less` meets its contract.
use Rattle.values.proofs.ValueLaws.{no_less, one_less}
use Rattle.standing.proofs.one_less.Goals as goal

pub returns-then-i-eq0 : goal.returns-then-i-eq0
returns-then-i-eq0 c = no_less c.args.j c.args.i c.if-i-eq0.true

pub returns : goal.returns
returns c = one_less c.args.j c.args.i c.if-i-eq0.false
