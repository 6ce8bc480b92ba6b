-- `boundary::comparing::write_choice` meets its contract.
use mathlib.Core.Path.{refl}
use native.Mathlib.Omega.{arith}
use lib.ListN.{length-set}
use Rattle.boundary.proofs.ComparedLaws.{choice_long, tells_choice}
use Rattle.boundary.proofs.comparing.write_choice.Goals as goal

pub four-requires : goal.four-requires
four-requires c = simp length-set (omega arith)

pub shape_of-out : goal.shape_of-out
shape_of-out c = choice_long c.args.out.now _ _ _ _ _ _ _ _ _ c.requires (record { now_is = refl }) (record { now_is = refl }) c.four.ensures

pub returns : goal.returns
returns c =
    tells_choice c.args.out.now _ _ _ _ _ _ _ _ _ c.requires (record { now_is = refl }) (record { now_is = refl }) c.four.ensures c.args.c c.outcome_number.ensures c.reason_words-words.ensures
