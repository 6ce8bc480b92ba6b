-- `journal::write_changes` meets its contract. The loop goes from the oldest entry to the newest, and has written the last touches it passed.
use native.Mathlib.Omega.{arith}
use Rattle.hash.specs.Hashes.{join}
use Rattle.journal.proofs.ChangesLaws.{writing_start, writing_same, writing_more, writing_short, writing_done}
use Rattle.journal.proofs.write_changes.Goals as goal

pub loop-i-init : goal.loop-i-init
loop-i-init c =
    let a = c.args in writing_start a.mem.now a.n c.later-k.result a.list.now

pub returns-then-list-at-lt32 : goal.returns-then-list-at-lt32
returns-then-list-at-lt32 c =
    let a = c.args in
    let s = c.loop-i in
    writing_short a.mem.now a.n c.later-k.result s.i s.at a.list.now s.list c.is_last.result s.invariant (omega arith)
    c.is_last.ensures a.v c.later-k.ensures c.if-is_last.true (omega arith)

pub loop-i-preserved-then-is_last : goal.loop-i-preserved-then-is_last
loop-i-preserved-then-is_last c =
    let a = c.args in
    let s = c.loop-i in
    let q = c.entry_words-q.result in
    writing_more a.mem.now a.n c.later-k.result s.i s.at a.list.now s.list c.is_last.result s.invariant (omega arith)
    c.is_last.ensures c.put.new.list (join q.a q.b q.c q.d) c.if-is_last.true (omega arith) c.put.auto.list
    c.entry_words-q.ensures c.put.ensures

pub loop-i-preserved : goal.loop-i-preserved
loop-i-preserved c =
    let a = c.args in
    let s = c.loop-i in
    writing_same a.mem.now a.n c.later-k.result s.i s.at a.list.now s.list c.is_last.result s.invariant (omega arith)
    c.is_last.ensures c.if-is_last.false

pub returns : goal.returns
returns c =
    let a = c.args in
    let s = c.loop-i in
    writing_done a.mem.now a.n a.v c.later-k.result s.i s.at a.list.now s.list c.later-k.ensures s.invariant (omega arith)
