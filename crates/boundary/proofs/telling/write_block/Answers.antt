-- `boundary::telling::write_block` meets its contract.
use mathlib.Core.Path.{◌∙◌, refl}
use native.Mathlib.Omega.{arith}
use lib.ListN.{length-set}
use Rattle.boundary.proofs.ShownLaws.{block_written}
use Rattle.boundary.proofs.telling.write_block.Goals as goal

pub write_header-requires : goal.write_header-requires
write_header-requires c = simp length-set (omega arith)

pub write_copy-requires : goal.write_copy-requires
write_copy-requires c = let l = c.write_header.ensures.long in let k = length-set c.args.out.now 0 1 in omega (arith, l, k)

pub shape_of-out : goal.shape_of-out
shape_of-out c = c.write_copy.ensures.long ∙ c.write_header.ensures.long ∙ length-set c.args.out.now 0 1

pub returns : goal.returns
returns c = block_written c.args.out.now _ _ _ _ c.requires (record { now_is = refl }) c.write_header.ensures c.write_copy.ensures
