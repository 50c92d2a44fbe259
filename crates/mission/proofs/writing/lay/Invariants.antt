use Rattle.std.proofs.Common.{◌≡◌, take, map}
use Rattle.mission.specs.Pages.{wrote}
use Rattle.mission.specs.Texts.{ended, node_line}
use Rattle.mission.proofs.writing.lay.Given as goal

-- the lines of the nodes before this one are written
abbrev pub invariant-loop-node : goal.invariant-loop-node
invariant-loop-node l = l.pen ≡ wrote l.initial.pen (ended (map node_line (take l.node-index l.node-items)))
