-- `sides::meets_at` meets its contract.
use native.Mathlib.Omega.{arith}
use Rattle.block.specs.Records.{header_means}
use Rattle.sides.proofs.BlockLaws.{meets_is}
use Rattle.sides.proofs.meets_at.Goals as goal

pub returns : goal.returns
returns c u = let a = c.args in meets_is a.mem.now a.n a.p (omega arith) u (header_means c.read_header-header.result) c.read_header-header.ensures _ c.meets.ensures
