-- `extending::orphan_stale` meets its contract: code 4 stands at the blocks passed.
use mathlib.Core.Path.{sym, ◌∙◌}
use native.Mathlib.Omega.{arith}
use Rattle.extending.proofs.OrphanLaws.{orphan_start, orphan_out, orphan_met, orphan_none, orphan_more}
use Rattle.extending.proofs.orphan_stale.Goals as goal

pub loop-init : goal.loop-init
loop-init c = let a = c.args in orphan_start a.mem.now a.n a.leaf (omega arith)

pub returns-then-canonical : goal.returns-then-canonical
returns-then-canonical c =
    let l = c.loop in
    orphan_met c.args.mem.now l.mem c.args.n c.args.leaf l.q l.counter c.requires.0 l.invariant (sym c.if-canonical.true ∙ c.canonical.ensures)

pub returns-then-n-q : goal.returns-then-n-q
returns-then-n-q c =
    let l = c.loop in
    orphan_none c.args.mem.now l.mem c.args.n c.args.leaf l.q l.counter c.requires.0 l.invariant _ (sym c.if-canonical.false ∙ c.canonical.ensures) c.write.ensures _ c.parent-q.ensures c.if-n-q.true

pub loop-preserved : goal.loop-preserved
loop-preserved c =
    let l = c.loop in
    orphan_more c.args.mem.now l.mem c.args.n c.args.leaf l.q l.counter c.requires.0 l.invariant _ (sym c.if-canonical.false ∙ c.canonical.ensures) c.write.ensures _ c.parent-q.ensures (omega arith)

pub returns : goal.returns
returns c =
    let l = c.loop in
    orphan_out c.args.mem.now l.mem c.args.n c.args.leaf l.q l.counter c.requires.0 l.invariant (omega arith)
