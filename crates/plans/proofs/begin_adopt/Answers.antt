-- `plans::begin_adopt` meets its contract.
use mathlib.Core.Path.{refl}
use Rattle.model.specs.Plans.{adopt_c}
use Rattle.model.specs.Adopt.{adopt}
use Rattle.walks.specs.Asking.{floor_means}
use Rattle.plans.proofs.CallLaws.{opens_refused, opens_done}
use Rattle.plans.proofs.begin_adopt.Goals as goal

pub returns-in-Refused : goal.returns-in-Refused
returns-in-Refused c = opens_refused (λ clock. adopt_c (floor_means c.args.floor) c.args.per_epoch clock c.args.places) _ (λ clock. refl) c.args.mem.now _ c.room-n.ensures.1 _ c.check.ensures _ c.in-Refused.is

pub adopt-d-requires : goal.adopt-d-requires
adopt-d-requires c = c.room-n.ensures.0 (c.check.ensures.some (rw c.in-Done.is refl))

pub returns-in-Done : goal.returns-in-Done
returns-in-Done c = opens_done (λ clock. adopt_c (floor_means c.args.floor) c.args.per_epoch clock c.args.places) c.args.places (λ clock. refl) c.args.mem.now c.room-n.result c.room-n.ensures.1 _ c.check.ensures
    adopt (floor_means c.args.floor) c.args.per_epoch (λ clock s. refl) (c.room-n.ensures.0 (c.check.ensures.some (rw c.in-Done.is refl))) c.in-Done.is _ _ _ c.begun_of.ensures c.adopt-d.ensures
