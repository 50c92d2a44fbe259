use Rattle.std.proofs.Common.{get_or, set, Ok, Err, sym, ap, ◌∙◌, arith}
use Rattle.std.proofs.lemmas.Result.{err_from_is_err_and}
use Rattle.bank.specs.Skills.{polled, poll_reply, struck, no_skill}
use Rattle.bank.specs.declared.kinds.Reply.TheVariants.{Run}
use Rattle.bank.proofs.Calls.{asked_ok}
use Rattle.std.proofs.lemmas.List.{get_or-set_same, set-get_or}
use Rattle.bank.specs.Capping.{capped_skills}
use Rattle.bank.proofs.CapCalls.{poll_refused, poll_done, poll_goes_on, poll_cut}
use Rattle.bank.proofs.cap.CapBank.poll.Goals as goal

pub returns-in_err-reply-clause-answer : goal.returns-in_err-reply-clause-answer
returns-in_err-reply-clause-answer g c =
    let b = c.args.self.now in
    let p = err_from_is_err_and c.from_residual.result c.from_residual.ensures.1 in
    p.1 ∙ ap Err p.2 ∙ poll_refused b.limit b.counts (g.B.Bank.skills b.below) c.args.k _ (sym c.in_err-reply.ensures.answer)

pub returns-in_default : goal.returns-in_default
returns-in_default g c =
    let b = c.args.self.now in
    let s = c.in_ok-reply.ensures in
    let p = poll_done b.limit b.counts (g.B.Bank.skills b.below) c.args.k c.in_ok-reply.reply c.in_default.not-Run (sym s.answer) in
    record { answer = p.0; after = ap (capped_skills b.limit b.counts) s.after ∙ p.1 }

pub returns-then-given-self : goal.returns-then-given-self
returns-then-given-self g c =
    let b = c.args.self.now in
    let l = g.B.Bank.skills b.below in
    let s = c.in_ok-reply.ensures in
    let e = sym s.answer ∙ ap Ok c.in-Run.is in
    let w = (asked_ok poll_reply l c.args.k Run e).0 in
    let p = poll_goes_on b.limit b.counts l c.args.k (omega (arith, w, g.met.B.Bank.few b.below, b.whole)) e (rw c.from.ensures at c.if-given-self.true) in
    record { answer = p.0; after = rw c.from.ensures (ap (capped_skills b.limit _) s.after ∙ p.1) }

pub returns-in_ok-halt-in-Run : goal.returns-in_ok-halt-in-Run
returns-in_ok-halt-in-Run g c =
    let b = c.args.self.now in
    let k = c.args.k in
    let l = g.B.Bank.skills b.below in
    let s = c.in_ok-reply.ensures in
    let h = c.in_ok-halt-in-Run.ensures in
    let e = sym s.answer ∙ ap Ok c.in-Run.is in
    let w = (asked_ok poll_reply l k Run e).0 in
    let x = polled (get_or l k no_skill) in
    let p = poll_cut b.limit b.counts l k e (rw c.from.ensures at c.if-given-self.false) in
    record {
      answer = p.0;
      after = ap (λ cs. capped_skills b.limit cs (g.B.Bank.skills c.halt.new.self)) (set-get_or b.counts c.from.result 0)
          ∙ ap (capped_skills b.limit b.counts)
          (h.after ∙ ap (λ y. set y k (struck (get_or y k no_skill))) s.after ∙ ap (λ y. set (set l k x) k (struck y)) (get_or-set_same l k x no_skill w))
          ∙ p.1;
    }
