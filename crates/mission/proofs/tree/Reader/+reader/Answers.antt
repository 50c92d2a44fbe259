use Rattle.std.proofs.Common.{◌≡◌, ℕ, sym, ap, ◌∙◌, subst, arith, rules}
use Rattle.std.proofs.lemmas.Result.{MatchResult-weaker}
use Rattle.mission.specs.declared.outline.Outline.{Outline}
use Rattle.mission.specs.Judging.{Next}
use Rattle.mission.specs.Nodes.{arity, skill_of}
use Rattle.mission.specs.Seen.{noted, row}
use Rattle.mission.specs.Shapes.{shape}
use Rattle.mission.proofs.Places.{row_more, places_count, next_open}
use Rattle.mission.proofs.Runs.{sound_more, level_small, children_next, node_filled, run_next}
use Rattle.mission.proofs.tree.Reader.+reader.Goals as goal

-- what is said of an outline is said of one that is the same
next_same : {o p : Outline} {i kids level : ℕ} → p ≡ o → Next (shape o).nodes i kids level → Next (shape p).nodes i kids level
next_same {o} {p} {i} {kids} {level} same next = subst (λ (q : Outline). Next (shape q).nodes i kids level) (sym same) next

pub read_node-invariant_of-self : goal.read_node-invariant_of-self
read_node-invariant_of-self t c =
    let r = c.args.self.now in
    let m = shape r.outline.now in
    let judged = c.in_ok-node.ensures in
    let some = next_open c.requires.next (omega arith) in
    let count = places_count m.nodes r.at some in
    let kids = c.kids-kids.ensures ∙ ap arity judged.0 in
    let opened = r.opened in
    record {
      within = omega arith;
      sound = sound_more m r.at r.sound judged.1;
      noted = c.note.ensures ∙ ap (λ s. noted s c.skill.result) r.noted ∙ ap (noted (row m.nodes r.at)) (c.skill.ensures ∙ ap skill_of judged.0) ∙ sym (row_more m.nodes r.at);
      opened = omega arith;
      few = omega arith;
    }

pub read_node-read_run-requires : goal.read_node-read_run-requires
read_node-read_run-requires t c =
    let m = shape c.args.self.now.outline.now in
    let judged = c.in_ok-node.ensures in
    let kids = c.kids-kids.ensures ∙ ap arity judged.0 in
    let small = level_small m c.requires.next judged.1 in
    (search rules, (children_next m.nodes c.requires.next kids, omega arith))

pub read_node-returns : goal.read_node-returns
read_node-returns t c =
    let kids = c.kids-kids.ensures ∙ ap arity c.in_ok-node.ensures.0 in
    let read = c.read_run.ensures in
    record {
      outline = read.outline;
      outcome = MatchResult-weaker c.read_run.result read.outcome (λ _ f. node_filled (shape c.args.self.now.outline.now).nodes c.requires.next kids f) (λ e h. h);
    }

pub read_run-read_node-requires : goal.read_run-read_node-requires
read_run-read_node-requires t c =
    let same = c.loop.invariant.outline in
    let f = c.loop.invariant.filled in
    let on = f.on in
    let next = next_same same (run_next (shape c.args.self.now.outline.now).nodes c.requires.next f c.loop-test.true) in
    (search rules, (next, c.requires.level))
