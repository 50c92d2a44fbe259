use Rattle.std.proofs.Common.{sym, subst}
use Rattle.mission.specs.Judging.{Next}
use Rattle.mission.specs.Shapes.{shape}
use Rattle.mission.proofs.Runs.{root}
use Rattle.mission.proofs.tree.judge.Goals as goal

pub read_node-requires-clause-next : goal.read_node-requires-clause-next
read_node-requires-clause-next c =
    let ns = (shape c.of-reader.result.outline.now).nodes in
    subst (λ at. Next ns at 1 1) (sym c.of-reader.ensures.at) (root ns)
