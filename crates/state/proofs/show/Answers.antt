-- `state::show` meets its contract.
use mathlib.Core.Path.{◌≡◌, refl, subst}
use native.Mathlib.Omega.{arith}
use Rattle.block.specs.Records.{kept_means}
use Rattle.rows.specs.Rows.{copy_at}
use Rattle.state.proofs.ShowLaws.{shows_free, shows_none, shows_copy}
use Rattle.state.proofs.show.Goals as goal

pub returns-then-mem-at-ne1 : goal.returns-then-mem-at-ne1
returns-then-mem-at-ne1 c = record { number = refl; reply = shows_free c.args.mem.now _ _ (omega arith) c.if-mem-at-ne1.true }

pub returns-in-None : goal.returns-in-None
returns-in-None c = record {
  number = refl;
  reply = shows_none c.args.mem.now _ _ (omega arith) c.if-mem-at-ne1.false c.effective_at.result c.effective_at.ensures
      (subst (λ k. kept_means k ≡ copy_at c.args.mem.now c.effective_at.result) c.in-None.is c.read_copy.ensures);
}

pub returns-in-Copy : goal.returns-in-Copy
returns-in-Copy c = record {
  number = refl;
  reply = shows_copy c.args.mem.now _ _ (omega arith) c.if-mem-at-ne1.false c.effective_at.result c.effective_at.ensures
      c.read_header-header.result c.in-Copy.copy c.read_header-header.ensures
      (subst (λ k. kept_means k ≡ copy_at c.args.mem.now c.effective_at.result) c.in-Copy.is c.read_copy.ensures);
}
