-- `extending::judge` meets its contract.
use mathlib.Core.Path.{refl}
use native.Mathlib.Omega.{arith}
use Rattle.walks.specs.Asking.{floor_means}
use Rattle.extending.proofs.JudgeLaws.{judges_none, judges_topless, judges_bottomless, judges_floor, judges_kept, judges_taken}
use Rattle.extending.proofs.judge.Goals as goal

pub returns-then-n-f : goal.returns-then-n-f
returns-then-n-f c = let a = c.args in judges_none a.mem.now a.n a.local a.leaf a.e (floor_means a.floor) a.per_epoch (omega arith) (omega arith) c.if-n-f.true

pub returns-then-n-top : goal.returns-then-n-top
returns-then-n-top c = let a = c.args in judges_topless a.mem.now a.n a.local a.leaf a.e (floor_means a.floor) a.per_epoch (omega arith) (omega arith) c.if-n-top.true

pub returns-then-n-bottom : goal.returns-then-n-bottom
returns-then-n-bottom c = let a = c.args in judges_bottomless a.mem.now a.n a.local a.leaf a.e (floor_means a.floor) a.per_epoch (omega arith) (omega arith) c.if-n-bottom.true

pub returns-then-held_back : goal.returns-then-held_back
returns-then-held_back c =
    let a = c.args in
    judges_floor a.mem.now a.n a.local a.leaf a.e (floor_means a.floor) a.per_epoch (omega arith) (omega arith) _ _ c.held_back.ensures c.if-held_back.true c.refuse.ensures

pub returns-then-not-adopted : goal.returns-then-not-adopted
returns-then-not-adopted c =
    let a = c.args in
    judges_kept a.mem.now a.n a.local a.leaf a.e (floor_means a.floor) a.per_epoch (omega arith) (omega arith) _ _ c.held_back.ensures _ c.compare-c.ensures _ c.adopted.ensures c.if-held_back.false (c.if-not-adopted.true) c.refuse-then-not-adopted.ensures

pub returns : goal.returns
returns c =
    let a = c.args in
    judges_taken a.mem.now a.n a.local a.leaf a.e (floor_means a.floor) a.per_epoch (omega arith) (omega arith) _ _ c.held_back.ensures _ c.compare-c.ensures _ c.adopted.ensures c.if-held_back.false _ refl (c.if-not-adopted.false) c.accept.ensures
