use Rattle.std.proofs.Common.{◌≤◌, take, None, ap, ◌∙◌, arith}
use Rattle.std.proofs.lemmas.List.{take-replicate}
use Rattle.board.proofs.parts.Cells.new.Goals as goal

pub returns : goal.returns
returns g c =
    let few : c.args.size ≤ 32 = omega (arith, c.in_ok-new.field-0.few, c.in_ok-new.ensures) in
    (few, rw c.in_ok-new.ensures (ap (take c.args.size) c.empty_cells.ensures ∙ take-replicate c.args.size 32 None few))
