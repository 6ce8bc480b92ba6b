-- `plans::adopt` meets its contract.
use mir.Syntax.{w64}
use mir.ValLaws.{to_z-of_z}
use Rattle.model.specs.Plans.{adopt_c}
use Rattle.walks.specs.Asking.{floor_means}
use Rattle.plans.specs.Lent.{places_in}
use Rattle.plans.proofs.CallLaws.{plan_finished}
use Rattle.plans.proofs.adopt.Goals as goal

pub finish-requires : goal.finish-requires
finish-requires c = c.begin_adopt-b.ensures.laid

pub returns : goal.returns
returns c = plan_finished (λ clock. adopt_c (floor_means c.args.floor) c.args.per_epoch clock (places_in c.args.list.now)) c.args.clock _ _ _ _ _ _ _ c.begin_adopt-b.ensures (rw (to_z-of_z w64 c.args.clock c.ranges.clock) at c.finish.ensures)
