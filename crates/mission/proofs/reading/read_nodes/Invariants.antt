-- The places so far hold the nodes of the lines that were taken.
use Rattle.std.proofs.Common.{◌≡◌, ◌+◌, take}
use Rattle.mission.specs.Reading.{Taken}
use Rattle.mission.proofs.reading.read_nodes.Given as goal

abbrev pub invariant-loop-node : goal.invariant-loop-node
invariant-loop-node l = record {
  taken : Taken l.fn.lines.rest.now (take l.node-index l.nodes) l.lines.rest.now;
  line : l.lines.line ≡ l.fn.lines.line + l.node-index;
}
