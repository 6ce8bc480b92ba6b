-- `standing::work_out` meets its contract.
use mathlib.Core.Path.{refl, sym, ◌∙◌}
use native.Mathlib.Omega.{arith}
use Rattle.block.specs.Records.{header_means}
use Rattle.values.specs.Values.{spine_of, value_means}
use Rattle.standing.proofs.WorkLaws.{work_barred, work_done}
use Rattle.standing.proofs.work_out.Goals as goal

pub returns-then-not-may : goal.returns-then-not-may
returns-then-not-may c = λ s e. let a = c.args in work_barred a.mem.now a.n a.p (omega arith) a.q (spine_of a.canonical) e (sym c.may.ensures ∙ c.if-not-may.true)

pub returns : goal.returns
returns c = λ s e. let a = c.args in work_done a.mem.now a.n a.p (omega arith) a.q (spine_of a.canonical) e (sym c.may.ensures ∙ c.if-not-may.false) (header_means c.read_header-header.result) c.read_header-header.ensures (value_means c.below_at-below.result) c.below_at-below.ensures _ (c.on_actual.ensures (header_means c.read_header-header.result) refl (sym c.meets-met.ensures))
