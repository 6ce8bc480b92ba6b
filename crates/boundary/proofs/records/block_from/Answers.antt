-- `boundary::records::block_from` meets its contract.
use Rattle.boundary.proofs.records.block_from.Goals as goal

pub returns : goal.returns
returns c = rw (c.from_bytes-h.ensures, c.from_bytes-v.ensures, c.read-t.ensures, c.read-a.ensures, c.copy_from-c.ensures)
