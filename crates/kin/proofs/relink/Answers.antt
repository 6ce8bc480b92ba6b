-- `kin::relink` meets its contract: its steps, one after the other (RelinkLaws).
use mathlib.Core.Path.{refl, ◌∙◌}
use Prim.Native.Nat.{◌+◌, ◌*◌}
use native.Mathlib.Omega.{arith}
use lib.ListN.{set}
use lib.ListN.{length-set}
use Rattle.kin.proofs.KinLaws.{lowered_laid, raised_laid, judged_laid, written_laid, stored_laid}
use Rattle.kin.proofs.RelinkLaws.{relink_done}
use Rattle.kin.proofs.relink.Goals as goal

pub kin_of-is-requires : goal.kin_of-is-requires
kin_of-is-requires c = let l₃ = stored_laid {m' = set c.write.new.mem (64 + 68 * c.args.p + 67) c.args.q} (written_laid (lowered_laid c.requires.0 c.lower.ensures) (omega arith) c.write.ensures) {a = 64 + 68 * c.args.p + 67} {v = c.args.q} (omega arith) (record { now_is = refl }) in
    (l₃, c.requires.1)

pub raise-requires : goal.raise-requires
raise-requires c = let l₃ = stored_laid {m' = set c.write.new.mem (64 + 68 * c.args.p + 67) c.args.q} (written_laid (lowered_laid c.requires.0 c.lower.ensures) (omega arith) c.write.ensures) {a = 64 + 68 * c.args.p + 67} {v = c.args.q} (omega arith) (record { now_is = refl }) in
    l₃

pub judge-requires : goal.judge-requires
judge-requires c = let l₃ = stored_laid {m' = set c.write.new.mem (64 + 68 * c.args.p + 67) c.args.q} (written_laid (lowered_laid c.requires.0 c.lower.ensures) (omega arith) c.write.ensures) {a = 64 + 68 * c.args.p + 67} {v = c.args.q} (omega arith) (record { now_is = refl }) in
    raised_laid l₃ c.raise.ensures

pub judge-requires-2 : goal.judge-requires-2
judge-requires-2 c = let l₃ = stored_laid {m' = set c.write.new.mem (64 + 68 * c.args.p + 67) c.args.q} (written_laid (lowered_laid c.requires.0 c.lower.ensures) (omega arith) c.write.ensures) {a = 64 + 68 * c.args.p + 67} {v = c.args.q} (omega arith) (record { now_is = refl }) in
    judged_laid (raised_laid l₃ c.raise.ensures) c.judge.ensures

pub judge-requires-3 : goal.judge-requires-3
judge-requires-3 c = let l₃ = stored_laid {m' = set c.write.new.mem (64 + 68 * c.args.p + 67) c.args.q} (written_laid (lowered_laid c.requires.0 c.lower.ensures) (omega arith) c.write.ensures) {a = 64 + 68 * c.args.p + 67} {v = c.args.q} (omega arith) (record { now_is = refl }) in
    judged_laid (judged_laid (raised_laid l₃ c.raise.ensures) c.judge.ensures) c.judge-2.ensures

pub update-requires : goal.update-requires
update-requires c = let l₃ = stored_laid {m' = set c.write.new.mem (64 + 68 * c.args.p + 67) c.args.q} (written_laid (lowered_laid c.requires.0 c.lower.ensures) (omega arith) c.write.ensures) {a = 64 + 68 * c.args.p + 67} {v = c.args.q} (omega arith) (record { now_is = refl }) in
    record { laid = judged_laid (judged_laid (judged_laid (raised_laid l₃ c.raise.ensures) c.judge.ensures) c.judge-2.ensures) c.judge-3.ensures; bounds = (omega arith, c.requires.1) }

pub shape_of-mem : goal.shape_of-mem
shape_of-mem c = c.update.ensures.long ∙ c.judge-3.ensures.long ∙ c.judge-2.ensures.long ∙ c.judge.ensures.long ∙ c.raise.ensures.long ∙ length-set c.write.new.mem (64 + 68 * c.args.p + 67) c.args.q ∙ c.write.ensures.long ∙ c.lower.ensures.long

pub returns : goal.returns
returns c = relink_done _ _ c.write.new.mem (set c.write.new.mem (64 + 68 * c.args.p + 67) c.args.q) _ _ _ _ _ _ _ _ _ _ c.requires.0 c.requires.1 c.kin_of-was.ensures c.lower.ensures c.write.ensures.only c.write.ensures.long (record { now_is = refl }) c.kin_of-is.ensures c.raise.ensures c.judge.ensures c.judge-2.ensures c.judge-3.ensures c.update.ensures _ c.write.ensures.is
