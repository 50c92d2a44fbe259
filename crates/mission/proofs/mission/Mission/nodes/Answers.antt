use Rattle.std.proofs.Common.{arith}
use Rattle.mission.specs.Shapes.{shape}
use Rattle.mission.proofs.Growing.{means, inverse}
use Rattle.mission.proofs.Runs.{shape_long}
use Rattle.mission.proofs.mission.Mission.nodes.Goals as goal

pub returns-clause-tree : goal.returns-clause-tree
returns-clause-tree c =
    let m = c.args.self.now in
    let o = m.outline in
    let l = shape_long o in
    let s = o.declared.some in
    (means (shape o) m.lawful (omega arith) o.in_range, inverse)
