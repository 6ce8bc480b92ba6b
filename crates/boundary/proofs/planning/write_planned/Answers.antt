-- `boundary::planning::write_planned` meets its contract.
use Rattle.boundary.proofs.PlanningLaws.{tells_scan, tells_apply}
use Rattle.boundary.proofs.planning.write_planned.Goals as goal

pub returns-in-Scan : goal.returns-in-Scan
returns-in-Scan c = tells_scan _ c.in-Scan.is

pub returns-in-Apply : goal.returns-in-Apply
returns-in-Apply c = tells_apply _ c.in-Apply.is
