use Rattle.std.proofs.Common.{take, sym, refl, subst, arith}
use Rattle.std.proofs.lemmas.List.{take_more_set}
use Rattle.mission.specs.Reading.{Taken}
use Rattle.mission.proofs.NodeLines.{taken_push}
use Rattle.mission.proofs.reading.read_nodes.Goals as goal

pub loop-node-preserved : goal.loop-node-preserved
loop-node-preserved c =
    let start = c.args.lines.now.rest.now in
    let i = c.loop-node.node-index in
    let nodes = c.loop-node.nodes in
    let node = c.in_ok-node.field-0 in
    let got = c.in_ok-node.ensures in
    record {
      taken = subst (λ ns. Taken start ns c.read_node.new.lines.rest.now) (sym (take_more_set nodes i node (omega arith)))
          (taken_push start (take i nodes) node c.loop-node.lines.rest.now _ c.read_node.new.lines.rest.now c.loop-node.invariant.taken got.0 refl got.1);
      line = omega (arith, got.2);
    }
