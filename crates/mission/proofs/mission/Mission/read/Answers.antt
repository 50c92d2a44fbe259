use Rattle.std.proofs.Common.{sym, refl, ◌∙◌}
use Rattle.mission.specs.declared.mission.Mission.{Mission}
use Rattle.mission.specs.Shapes.{shape}
use Rattle.mission.proofs.Accepting.{outline_ranged, faultless, first_line_fault, first_tree_fault, given_back, not_refused}
use Rattle.mission.proofs.Handed.{handed}
use Rattle.mission.proofs.mission.Mission.read.Goals as goal

pub returns-in_err-outline : goal.returns-in_err-outline
returns-in_err-outline c =
    let t = c.args.text.now in
    let h = first_line_fault t c.in_err-outline.field-0.0 c.in_err-outline.ensures in
    rw (handed c.from_residual.result c.from_residual.ensures.1) (record { outcome = (h, refl); back = λ m e. not_refused t _ m h e })

pub returns-in_err-judge : goal.returns-in_err-judge
returns-in_err-judge c =
    let t = c.args.text.now in
    let o = c.in_ok-outline.outline in
    let h = first_tree_fault t (shape o) _ c.in_ok-outline.ensures (outline_ranged o) c.in_err-judge.ensures in
    rw (handed c.from_residual-in_err-judge.result c.from_residual-in_err-judge.ensures.1) (record { outcome = (h, refl); back = λ m e. not_refused t _ m h e })

pub returns : goal.returns
returns c =
    let t = c.args.text.now in
    let o = c.in_ok-outline.outline in
    let e = c.in_ok-outline.ensures in
    let l = c.in_ok-judge.ensures in
    let m : Mission = record { outline = o; lawful = l } in
    record { outcome = (e, faultless t (shape o) e (outline_ranged o) l); back = λ k f. given_back m k (sym e ∙ f) }
