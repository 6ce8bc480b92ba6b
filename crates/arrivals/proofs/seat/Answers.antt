-- `arrivals::seat` meets its contract.
use Prim.{tt}
use Rattle.block.specs.Records.{header_means}
use Rattle.arrivals.proofs.PutLaws.{no_index, no_header, old_room, no_room_left, new_room_lem}
use mathlib.Core.Path.{ap}
use mathlib.Core.Bool.{not}
use Rattle.arrivals.proofs.seat.Goals as goal

pub returns-then-header-eq18446744073709551615 : goal.returns-then-header-eq18446744073709551615
returns-then-header-eq18446744073709551615 c = record { below = tt; right = no_index c.args.mem.now c.args.n (header_means c.args.header) c.if-header-eq18446744073709551615.true }

pub returns-then-not-same_header : goal.returns-then-not-same_header
returns-then-not-same_header c = record { below = tt; right = no_header c.args.mem.now c.args.n (header_means c.args.header) c.if-header-eq18446744073709551615.false c.find-p.result c.find-p.ensures (header_means c.read_header-old.result) c.read_header-old.ensures c.if-p-n.true c.same_header.result c.same_header.ensures (ap not c.if-not-same_header.true) }

pub returns-then-p-n : goal.returns-then-p-n
returns-then-p-n c = record { below = c.if-p-n.true; right = old_room c.args.mem.now c.args.n (header_means c.args.header) c.if-header-eq18446744073709551615.false c.find-p.result c.find-p.ensures (header_means c.read_header-old.result) c.read_header-old.ensures c.if-p-n.true c.same_header.result c.same_header.ensures (ap not c.if-not-same_header.false) }

pub returns-then-n-q : goal.returns-then-n-q
returns-then-n-q c = record { below = tt; right = no_room_left c.args.mem.now c.args.n (header_means c.args.header) c.if-header-eq18446744073709551615.false c.find-p.result c.find-p.ensures c.if-p-n.false c.free_place-q.result c.free_place-q.ensures c.if-n-q.true }

pub returns : goal.returns
returns c = record { below = c.if-n-q.false; right = new_room_lem c.args.mem.now c.args.n (header_means c.args.header) c.if-header-eq18446744073709551615.false c.find-p.result c.find-p.ensures c.if-p-n.false c.free_place-q.result c.free_place-q.ensures c.if-n-q.false }
