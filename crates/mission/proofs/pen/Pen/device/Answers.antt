use Rattle.mission.proofs.Laying.{numbered}
use Rattle.mission.proofs.pen.Pen.device.Goals as goal

pub returns-in-Some : goal.returns-in-Some
returns-in-Some c = rw c.in-Some.is (numbered _ _ _ _ c.number.ensures)
