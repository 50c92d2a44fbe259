use Rattle.mission.proofs.Laying.{numbered, and_number}
use Rattle.mission.proofs.pen.Pen.destination.Goals as goal

pub returns-in-Count : goal.returns-in-Count
returns-in-Count c = rw c.in-Count.is (and_number _ _ _ _ _ _ c.number.ensures c.put-in-Count.ensures)

pub returns-in-Ability : goal.returns-in-Ability
returns-in-Ability c =
    rw c.in-Ability.is (and_number _ _ _ _ _ _ c.number-in-Ability.ensures (numbered _ _ _ _ (rw c.value.ensures at c.number-in-Ability-2.ensures)))
