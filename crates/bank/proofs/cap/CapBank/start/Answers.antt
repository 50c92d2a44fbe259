use Rattle.std.proofs.Common.{Err, sym, ap, ◌∙◌, arith}
use Rattle.std.proofs.lemmas.Result.{err_from_is_err_and}
use Rattle.bank.specs.Skills.{start_reply}
use Rattle.bank.proofs.Calls.{asked_ok}
use Rattle.bank.specs.Capping.{capped_skills}
use Rattle.bank.proofs.CapCalls.{start_answer, start_after}
use Rattle.bank.proofs.cap.CapBank.start.Goals as goal

pub returns-in_err-start-clause-answer : goal.returns-in_err-start-clause-answer
returns-in_err-start-clause-answer g c =
    let b = c.args.self.now in
    let p = err_from_is_err_and c.from_residual.result c.from_residual.ensures.1 in
    p.1 ∙ ap Err p.2 ∙ c.in_err-start.ensures.answer ∙ sym (start_answer b.limit b.counts (g.B.Bank.skills b.below) c.args.k)

pub returns-clause-answer : goal.returns-clause-answer
returns-clause-answer g c =
    let b = c.args.self.now in
    c.in_ok-start.ensures.answer ∙ sym (start_answer b.limit b.counts (g.B.Bank.skills b.below) c.args.k)

pub returns-clause-after : goal.returns-clause-after
returns-clause-after g c =
    let b = c.args.self.now in
    let l = g.B.Bank.skills b.below in
    let s = c.in_ok-start.ensures in
    let w = (asked_ok start_reply l c.args.k _ (sym s.answer)).0 in
    rw c.from.ensures (ap (capped_skills b.limit _) s.after ∙ start_after b.limit b.counts l c.args.k _ (omega (arith, w, g.met.B.Bank.few b.below, b.whole)) (sym s.answer))
