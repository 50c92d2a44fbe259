-- A line of its form is judged by its ranges.
use Rattle.std.proofs.Common.{rules, ◌≡◌, Some, None, Err, sym, ◌∙◌, subst}
use Rattle.mission.specs.declared.flaw.Flaw.TheVariants.{Form}
use Rattle.mission.specs.Lines.{line, ranged, raw, LineJudged}
use Rattle.mission.proofs.LineForms.{judged, no_line}
use Rattle.mission.proofs.line.judge_line.Goals as goal

pub returns-in_err-ok_or : goal.returns-in_err-ok_or
returns-in_err-ok_or c =
    let none : c.parse.result ≡ None = search rules in
    let form : c.from_residual.result ≡ Err Form = search rules in
    subst (LineJudged line ranged raw c.args.line.text.now) (sym form) (no_line c.args.line.text.now (sym none ∙ c.parse.ensures))

pub returns : goal.returns
returns c =
    let some : c.parse.result ≡ Some c.in_ok-ok_or.field-0 = search rules in
    judged c.args.line.text.now c.in_ok-ok_or.field-0 c.node_of.result (sym some ∙ c.parse.ensures) c.node_of.ensures
