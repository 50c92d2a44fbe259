use Rattle.std.proofs.Common.{rules}
use Rattle.mission.proofs.Laying.{and_then, numbered, and_number, same_least}
use Rattle.mission.proofs.pen.Pen.line.Goals as goal

pub returns-in-Group : goal.returns-in-Group
returns-in-Group c =
    rw c.in-Group.is (and_then _ _ _ _ _ c.put.ensures (and_then _ _ _ _ _ (rw c.word.ensures at c.put-in-Group.ensures) (numbered _ _ _ _ c.number.ensures)))

pub returns-in-Par : goal.returns-in-Par
returns-in-Par c = rw c.in-Par.is (and_number _ _ _ _ _ _ c.number-in-Par.ensures (numbered _ _ _ _ c.number-in-Par-2.ensures))

pub returns-in-Loop : goal.returns-in-Loop
returns-in-Loop c =
    rw c.in-Loop.is (and_then _ _ _ _ _ c.put-in-Loop.ensures (and_then _ _ _ _ _ (rw c.word-in-Loop.ensures at c.put-in-Loop-2.ensures) (numbered _ _ _ _ c.number-in-Loop.ensures)))

pub returns-in-Skill : goal.returns-in-Skill
returns-in-Skill c = rw c.in-Skill.is (and_number _ _ _ _ _ _ c.number-in-Skill.ensures (and_then _ _ _ _ _ c.device.ensures c.destination.ensures))

pub returns-in-Count : goal.returns-in-Count
returns-in-Count c =
    let least = same_least c.least.result c.in-Count.least.least.value (search rules) c.least.ensures in
    rw c.in-Count.is (and_number _ _ _ _ _ _ c.number-in-Count.ensures (numbered _ _ _ _ (rw least at c.number-in-Count-2.ensures)))

pub returns-in-Ability : goal.returns-in-Ability
returns-in-Ability c =
    let least = same_least c.least-in-Ability.result c.in-Ability.least.least.value (search rules) c.least-in-Ability.ensures in
    rw c.in-Ability.is (and_number _ _ _ _ _ _ c.number-in-Ability.ensures (and_number _ _ _ _ _ _ (rw least at c.number-in-Ability-2.ensures) (numbered _ _ _ _ (rw c.over.ensures at c.number-in-Ability-3.ensures))))
