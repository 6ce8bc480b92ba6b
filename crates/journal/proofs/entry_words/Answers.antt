-- `journal::entry_words` meets its contract: the hash in the slot.
use Rattle.journal.proofs.EntryLaws.{aged_hash}
use Rattle.journal.proofs.entry_words.Goals as goal

pub returns : goal.returns
returns c =
    let a = c.args in let q = c.read_four.result in
    λ w l. aged_hash a.mem.now a.n a.i c.slot_of-e.result c.slot_of-e.ensures w l q.a q.b q.c q.d c.read_four.ensures
