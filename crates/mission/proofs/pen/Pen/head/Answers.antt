use Rattle.mission.proofs.Laying.{and_number}
use Rattle.mission.proofs.pen.Pen.head.Goals as goal

pub returns : goal.returns
returns c = and_number _ _ _ _ _ _ c.number.ensures (and_number _ _ _ _ _ _ c.number-2.ensures (and_number _ _ _ _ _ _ c.number-3.ensures c.put.ensures))
