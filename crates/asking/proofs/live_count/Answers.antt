-- `asking::live_count` meets its contract.
use mathlib.Core.Path.{refl, subst}
use native.Mathlib.Omega.{arith}
use Rattle.asking.specs.Within.{Begins}
use Rattle.asking.proofs.TreeAskLaws.{asks_refused, asks_fresh, counts_live}
use Rattle.asking.proofs.live_count.Goals as goal

pub returns-in-No : goal.returns-in-No
returns-in-No c = asks_refused _ _ c.in-No.r _ (subst (Begins c.args.mem.now) c.in-No.is c.begin.ensures)

pub bounds-mem-12 : goal.bounds-mem-12
bounds-mem-12 c = let l = (subst (Begins c.args.mem.now) c.in-At.is c.begin.ensures).0 in omega (arith, l.fits)

pub returns-in-At : goal.returns-in-At
returns-in-At c = asks_fresh _ _ (λ h v. refl) _ _ _ (subst (Begins c.args.mem.now) c.in-At.is c.begin.ensures) (counts_live _ _)
