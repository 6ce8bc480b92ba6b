-- `asking::canonical_count` meets its contract.
use mathlib.Core.Path.{refl, subst}
use native.Mathlib.Omega.{arith}
use Rattle.asking.specs.Within.{Begins}
use Rattle.asking.proofs.TreeAskLaws.{asks_refused, asks_fresh, counts_canonical}
use Rattle.asking.proofs.canonical_count.Goals as goal

pub returns-in-No : goal.returns-in-No
returns-in-No c = asks_refused _ _ c.in-No.r _ (subst (Begins c.args.mem.now) c.in-No.is c.begin.ensures)

pub bounds-mem-13 : goal.bounds-mem-13
bounds-mem-13 c = let l = (subst (Begins c.args.mem.now) c.in-At.is c.begin.ensures).0 in omega (arith, l.fits)

pub returns-in-At : goal.returns-in-At
returns-in-At c = asks_fresh _ _ (λ h v. refl) _ _ _ (subst (Begins c.args.mem.now) c.in-At.is c.begin.ensures) (counts_canonical _ _)
