use Rattle.std.proofs.Common.{sym, ap, ◌∙◌}
use Rattle.bank.specs.Capping.{capped_skills}
use Rattle.bank.proofs.CapCalls.{halt_answer, halt_after}
use Rattle.bank.proofs.cap.CapBank.halt.Goals as goal

pub returns : goal.returns
returns g c =
    let b = c.args.self.now in
    let l = g.B.Bank.skills b.below in
    record {
      answer = c.halt.ensures.answer ∙ sym (halt_answer b.limit b.counts l c.args.k);
      after = ap (capped_skills b.limit b.counts) c.halt.ensures.after ∙ halt_after b.limit b.counts l c.args.k c.halt.result c.halt.ensures.answer;
    }
