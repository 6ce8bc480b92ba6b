-- `index::seek` meets its contract. The loop's invariant: of each chain from `at`, what is left of it.
use mathlib.Core.Logic.{inl, inr}
use native.Mathlib.Omega.{arith}
use Rattle.block.specs.Words.{quad}
use Rattle.index.specs.Keys.{key_at}
use Rattle.index.proofs.Walks.{seek_start, seek_step, seek_found, seek_ended}
use Rattle.index.proofs.seek.Goals as goal

pub loop-init : goal.loop-init
loop-init c =
    let a = c.args in
    (omega arith, seek_start a.mem.now a.s a.base (key_at a.mem.now a.keys a.entries) (quad a.a a.b a.c a.d) a.at)

pub returns-then-s-x : goal.returns-then-s-x
returns-then-s-x c =
    let a = c.args in
    seek_ended a.mem.now a.s a.base (key_at a.mem.now a.keys a.entries) (quad a.a a.b a.c a.d) a.at _ _
    c.loop.invariant.1 (inl (omega (arith, c.place_at-x.ensures)))

pub returns-then-has_key : goal.returns-then-has_key
returns-then-has_key c =
    let a = c.args in
    seek_found a.mem.now a.s a.base (key_at a.mem.now a.keys a.entries) (quad a.a a.b a.c a.d) a.at _ _
    c.loop.invariant.1 _ c.place_at-x.ensures (omega arith)
    (rw c.if-has_key.true at c.has_key.ensures)

pub loop-preserved : goal.loop-preserved
loop-preserved c =
    let a = c.args in (
      omega arith,
      λ l ch.
          seek_step a.mem.now a.s a.base (key_at a.mem.now a.keys a.entries) (quad a.a a.b a.c a.d)
          (c.loop.invariant.1 l ch) c.place_at-x.ensures (omega arith)
          (rw c.if-has_key.false at c.has_key.ensures),
    )

pub returns : goal.returns
returns c =
    let a = c.args in
    seek_ended a.mem.now a.s a.base (key_at a.mem.now a.keys a.entries) (quad a.a a.b a.c a.d) a.at _ _
    c.loop.invariant.1 (inr (omega arith))
