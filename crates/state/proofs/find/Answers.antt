-- `state::find` meets its contract: the index of a sound memory has the place of the hash.
use Rattle.state.proofs.FindLaws.{found_place}
use Prim.Native.Nat.{ℕ, ◌<◌}
use native.Mathlib.Omega.{arith}
use Rattle.hash.specs.Hashes.{limb}
use Rattle.hash.proofs.HashLaws.{Words}
use Rattle.memory.specs.Words.{word}
use Rattle.state.proofs.find.Goals as goal
use Rattle.state.proofs.find.Goals.{After-shared_slice_known-1}

wide : (c : After-shared_slice_known-1) (i : ℕ) → word c.args.mem.now i < limb
wide c i = let f = c.type_inv.mem i in omega arith

given : (c : After-shared_slice_known-1) → Words c.args.a c.args.b c.args.c c.args.d
given c = record { first = omega arith; second = omega arith; third = omega arith; fourth = omega arith }

pub returns : goal.returns
returns c = λ s. found_place c.args.mem.now _ s (wide (goal.at.returns c).After-shared_slice_known-1) c.args.a c.args.b c.args.c c.args.d (given (goal.at.returns c).After-shared_slice_known-1) _ c.find.ensures
