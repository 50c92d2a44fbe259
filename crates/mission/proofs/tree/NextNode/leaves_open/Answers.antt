use Rattle.std.proofs.Common.{ap, ◌∙◌, arith}
use Rattle.std.proofs.lemmas.Bool.Decides.{Decides-ltb, Decides-like}
use Rattle.mission.specs.Nodes.{arity}
use Rattle.mission.specs.Shapes.{shape}
use Rattle.mission.proofs.Judgements.{open_decides}
use Rattle.mission.proofs.Runs.{shape_long}
use Rattle.mission.proofs.tree.NextNode.leaves_open.Goals as goal

pub returns-then-self-gt1 : goal.returns-then-self-gt1
returns-then-self-gt1 c =
    let r = c.args.self.now.reader.now in
    open_decides (shape r.outline.now).nodes r.at _ c.args.self.now.place r.opened (omega (arith, shape_long r.outline.now))
    (Decides-like _ (λ t. omega arith) (λ h. omega arith) (Decides-ltb 1 r.still_open))

pub returns-else-self-gt1 : goal.returns-else-self-gt1
returns-else-self-gt1 c =
    let r = c.args.self.now.reader.now in
    let kids = c.kids.ensures ∙ ap arity c.node.ensures in
    open_decides (shape r.outline.now).nodes r.at _ c.args.self.now.place r.opened (omega (arith, shape_long r.outline.now))
    (Decides-like _ (λ t. omega arith) (λ h. omega arith) (Decides-ltb 0 c.kids.result))
