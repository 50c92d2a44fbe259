use Rattle.std.proofs.Common.{◌≡◌, ℕ, ◌+◌, ◌<◌, List, [], ◌∷◌, ◌++◌, map, length, take, get_or, sym, refl, ap, ◌∙◌, arith, rules}
use Rattle.std.proofs.lemmas.List.{map-append, take_more, take_all}
use Rattle.mission.specs.declared.node.Node.{Node}
use Rattle.mission.specs.Pages.{wrote}
use Rattle.mission.specs.Shapes.{shape}
use Rattle.mission.specs.Texts.{ended, heading, node_line, text}
use Rattle.mission.proofs.Laying.{and_then, laid_text, same_name}
use Rattle.mission.proofs.NodeLines.{ended_both}
use Rattle.mission.proofs.Runs.{shape_long}
use Rattle.mission.proofs.writing.lay.Goals as goal

pub loop-node-init : goal.loop-node-init
unfolding wrote
loop-node-init c = refl

-- one line more
more : (ns : List Node) (i : ℕ) (n : Node) → i < length ns → n ≡ get_or ns i n → ended (map node_line (take i ns)) ++ (node_line n ++ (10 ∷ [])) ≡ ended (map node_line (take (i + 1) ns))
more ns i n h e =
    let next : take (i + 1) ns ≡ take i ns ++ (n ∷ []) = take_more ns i n h ∙ ap (λ m. take i ns ++ (m ∷ [])) (sym e) in
    rw next (rw (map-append node_line (take i ns) (n ∷ [])) (ended_both (map node_line (take i ns)) (node_line n ∷ [])))

pub loop-node-preserved : goal.loop-node-preserved
loop-node-preserved c =
    let ns = c.nodes-node-items.result.now in
    let i = c.loop-node.node-index in
    and_then _ _ _ _ _ c.loop-node.invariant (and_then _ _ _ _ _ c.line.ensures c.put.ensures) ∙ ap (wrote c.head.new.self) (more ns i c.node-item.result (omega arith) c.node-item.is)

pub returns : goal.returns
returns c =
    let o = c.args.outline.now in
    let ns = (shape o).nodes in
    let p = c.over-pen.result in
    let l = shape_long o in
    let items = c.nodes-node-items.result.now in
    let all : take c.loop-node.node-index items ≡ ns = take_all c.loop-node.node-index items (omega arith) ∙ c.nodes-node-items.ensures in
    let is : ended (heading o.declared) ++ ended (map node_line (take c.loop-node.node-index items)) ≡ text (shape o) = rw all (rw l (ended_both (heading o.declared) (map node_line ns))) in
    let whole : c.loop-node.pen ≡ wrote p (text (shape o)) = and_then _ _ _ _ _ c.head.ensures c.loop-node.invariant ∙ ap (wrote p) is in
    let name = ap (λ x. x.page.ghost_name) whole ∙ same_name p (text (shape o)) ∙ ap (λ x. x.ghost_name) c.over-pen.ensures.page in
    let page = ap (λ x. x.now) c.over-pen.ensures.page in
    let long = ap length page in
    let laid = laid_text p c.loop-node.pen (text (shape o)) (omega arith) c.over-pen.ensures.place whole in
    search rules
