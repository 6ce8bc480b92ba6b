-- `walks::line` meets its contract: the k places before q are noted.
use mathlib.Core.Path.{refl}
use native.Mathlib.Omega.{arith}
use Rattle.walks.proofs.LineLaws.{line_more, noting_more, noting_done, noting_out}
use Rattle.walks.proofs.line.Goals as goal

pub returns-then-n-q : goal.returns-then-n-q
returns-then-n-q c = let a = c.args in
    let l = c.loop-k in
    let t = c.loop-k-test.true in record { only = line_more a.mem.now l.mem _ a.n l.k _ t l.invariant.only (record { now_is = refl }); right = λ s u. noting_done a.mem.now l.mem _ a.n a.top l.q l.k l.invariant t (record { now_is = refl }) _ c.parent-q.ensures c.if-n-q.true s }

pub loop-k-preserved : goal.loop-k-preserved
loop-k-preserved c =
    let a = c.args in
    let l = c.loop-k in
    noting_more a.mem.now l.mem _ a.n a.top l.q l.k l.invariant c.loop-k-test.true (record { now_is = refl }) _ c.parent-q.ensures (omega arith)

pub returns : goal.returns
returns c = let a = c.args in
    let l = c.loop-k in
    record { only = l.invariant.only; right = λ s u. noting_out a.mem.now l.mem a.n a.top l.q l.k l.invariant (omega arith) s }
