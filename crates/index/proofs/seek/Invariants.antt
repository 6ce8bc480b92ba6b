-- `index::seek` meets its contract. The loop's invariant: of each chain from `at`, what is left of it.
use mathlib.Core.List.{List}
use Prim.Native.Nat.{ℕ, ◌<◌}
use lib.ListN.{length}
use Rattle.block.specs.Words.{quad}
use Rattle.index.specs.Chain.{Chain}
use Rattle.index.specs.Keys.{key_at}
use Rattle.index.proofs.Walks.{Seeking}
use Rattle.index.proofs.seek.Given as goal

abbrev pub invariant-loop : goal.invariant-loop
invariant-loop loop =
    (loop.link < length loop.mem)
    × ((l : List ℕ) → Chain loop.mem loop.s loop.base loop.at l → Seeking loop.mem loop.s loop.base (key_at loop.mem loop.keys loop.entries) (quad loop.a loop.b loop.c loop.d) loop.link loop.counter l)
