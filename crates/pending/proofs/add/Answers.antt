-- `pending::add` meets its contract.
use mathlib.Core.Path.{refl}
use Rattle.pending.proofs.PendLaws.{add_again, add_stores}
use Rattle.pending.proofs.add.Goals as goal

-- it is pending already
pub returns-then-mem-p-eq1 : goal.returns-then-mem-p-eq1
returns-then-mem-p-eq1 c =
    add_again c.args.mem.now c.args.n c.args.p c.if-mem-p-eq1.true

pub returns : goal.returns
returns c =
    let p = c.requires in
    add_stores _ _ _ _ _ _ _ p.0 p.1 (record { now_is = refl }) (record { now_is = refl }) c.update.ensures c.turn-t.ensures
