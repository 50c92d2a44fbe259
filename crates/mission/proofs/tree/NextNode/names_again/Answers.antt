use Rattle.std.proofs.Common.{◌∙◌, ap}
use Rattle.mission.specs.Seen.{noted_in}
use Rattle.mission.specs.Nodes.{skill_of}
use Rattle.mission.specs.Places.{node_at}
use Rattle.mission.specs.Shapes.{shape}
use Rattle.mission.proofs.Judgements.{again_decides}
use Rattle.mission.proofs.tree.NextNode.names_again.Goals as goal

pub returns : goal.returns
returns c =
    let r = c.args.self.now.reader.now in
    again_decides (shape r.outline.now).nodes r.at r.outline.now.in_range
    (c.has.ensures ∙ ap (noted_in r.skills) (c.skill.ensures ∙ ap skill_of c.node.ensures) ∙ ap (λ s. noted_in s (skill_of (node_at (shape r.outline.now).nodes r.at))) r.noted)
