use Rattle.sitting.proofs.Ending.{mission_ends}
use Rattle.sitting.proofs.executive.Executive.of.Goals as goal

pub returns-clause-ends : goal.returns-clause-ends
returns-clause-ends c = mission_ends c.args.mission.now c.nodes.result.now c.ends_of.result c.nodes.ensures.value c.ends_of.ensures c.nodes.ensures.tree.0
