use Rattle.std.proofs.Common.{◌≡◌, ◌+◌, ◌-◌, ◌*◌}
use Rattle.mission.specs.Judging.{Filled}
use Rattle.mission.specs.Shapes.{shape}
use Rattle.mission.proofs.tree.Reader.+reader.Given as goal

abbrev pub decreases-read_node : goal.decreases-read_node
decreases-read_node l = 2 * (l.self.now.outline.now.declared.nodes - l.self.now.at)

abbrev pub decreases-read_run : goal.decreases-read_run
decreases-read_run l = 2 * (l.self.now.outline.now.declared.nodes - l.self.now.at) + 1

abbrev pub invariant-read_run-loop : goal.invariant-read_run-loop
invariant-read_run-loop l = record {
  outline : l.self.outline.now ≡ l.fn.self.outline.now;
  filled : Filled (shape l.fn.self.outline.now).nodes l.fn.self.at l.counter l.self.at;
}
