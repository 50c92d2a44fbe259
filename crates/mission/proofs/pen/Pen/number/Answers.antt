use Rattle.std.proofs.Common.{◌≡◌, refl, w32, SFits, to_z, of_z, rules}
use Rattle.mission.proofs.Laying.{numeral_text}
use Rattle.mission.proofs.pen.Pen.number.Goals as goal

pub returns : goal.returns
returns g c =
    let z = c.into.result in
    let held : SFits w32 z = search rules in
    let same : to_z w32 (of_z w32 z) ≡ z = search rules in
    (z, c.into.ensures, rw c.put-2.ensures (rw c.put.ensures (rw c.format.ensures.text (rw same (rw (numeral_text z held) refl)))))
