-- `journal::touch` meets its contract: what its steps leave, one after another.
use Rattle.journal.proofs.TouchLaws.{touch_done}
use Rattle.journal.proofs.touch.Goals as goal

pub returns : goal.returns
returns c =
    let a = c.args in
    touch_done a.mem.now c.forget.new.mem c.forget-2.new.mem c.enter.new.mem c.count.new.mem a.n
    c.place_at-j.result c.slot-at.result c.find-before.result c.overwritten-oldest.result a.a a.b a.c a.d
    c.requires c.place_at-j.ensures c.slot-at.ensures c.find-before.ensures c.forget.ensures
    c.overwritten-oldest.ensures c.forget-2.ensures c.enter.ensures c.count.ensures (λ i. (c.slice_known-1.given i).fits)
    (record { first = c.ranges.a.fits; second = c.ranges.b.fits; third = c.ranges.c.fits; fourth = c.ranges.d.fits })
