-- `pending::add_entry` meets its contract.
use Rattle.hash.specs.Hashes.{join}
use Rattle.pending.proofs.ChangedLaws.{entry_none, entry_new}
use Rattle.pending.proofs.add_entry.Goals as goal

pub returns-then-p-n : goal.returns-then-p-n
returns-then-p-n c =
    let h = c.entry_words-h.result in
    entry_new c.args.mem.now _ c.args.n c.args.i _ c.is_last.ensures (join h.a h.b h.c h.d) c.find-p.result c.if-is_last.true c.entry_words-h.ensures c.find-p.ensures
    c.if-p-n.true c.add.ensures

pub returns-else-p-n : goal.returns-else-p-n
returns-else-p-n c =
    let h = c.entry_words-h.result in
    entry_none c.args.mem.now c.args.mem.now c.args.n c.args.i _ c.is_last.ensures (join h.a h.b h.c h.d) c.find-p.result c.if-is_last.true c.entry_words-h.ensures c.find-p.ensures c.if-p-n.false
