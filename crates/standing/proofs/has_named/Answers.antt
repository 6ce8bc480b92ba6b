-- `standing::has_named` meets its contract: the four words of a hash are those of another exactly if the hashes are the same.
use Prim.Native.Nat.{ℕ, ◌<◌}
use native.Mathlib.Omega.{arith}
use Rattle.hash.specs.Hashes.{limb}
use Rattle.memory.specs.Words.{word}
use Rattle.standing.proofs.ParentLaws.{room_out, room_free, room_words}
use Rattle.standing.proofs.has_named.Goals as goal
use Rattle.standing.proofs.has_named.Goals.{After-shared_slice_known-1}

wide : (c : After-shared_slice_known-1) (i : ℕ) → word c.args.mem.now i < limb
wide c i = let f = c.type_inv.mem i in omega arith

pub returns-then-n-u : goal.returns-then-n-u
returns-then-n-u c = let a = c.args in room_out a.mem.now a.n a.p a.u c.if-n-u.true

pub returns-then-mem-up-ne1 : goal.returns-then-mem-up-ne1
returns-then-mem-up-ne1 c = let a = c.args in room_free a.mem.now a.n a.p a.u (omega arith) c.if-mem-up-ne1.true

pub returns : goal.returns
returns c =
    let a = c.args in
    room_words a.mem.now a.n a.p (wide (goal.at.returns c).After-shared_slice_known-1) a.u (omega arith) c.if-mem-up-ne1.false _ c.same_four.ensures
