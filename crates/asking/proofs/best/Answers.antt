-- `asking::best` meets its contract.
use mathlib.Core.Path.{refl, subst}
use Rattle.asking.specs.Within.{Begins}
use Rattle.asking.proofs.TreeAskLaws.{asks_refused, asks_fresh, bests}
use Rattle.asking.proofs.best.Goals as goal

pub returns-in-No : goal.returns-in-No
returns-in-No c = asks_refused _ _ c.in-No.r _ (subst (Begins c.args.mem.now) c.in-No.is c.begin.ensures)

pub best_in-requires : goal.best_in-requires
best_in-requires c = (subst (Begins c.args.mem.now) c.in-At.is c.begin.ensures).0

pub returns-in-At : goal.returns-in-At
returns-in-At c = asks_fresh _ _ (λ h v. refl) _ _ _ (subst (Begins c.args.mem.now) c.in-At.is c.begin.ensures) (bests _ _ _ _ c.best_in.ensures)
