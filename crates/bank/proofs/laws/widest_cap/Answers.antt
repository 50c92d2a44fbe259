use Rattle.std.proofs.Common.{◌∙◌, arith}
use Rattle.std.proofs.lemmas.Result.{MatchResult-weaker}
use Rattle.bank.proofs.Shortening.{all_shortened_most, idle_halted}
use Rattle.bank.proofs.laws.widest_cap.Goals as goal

pub returns : goal.returns
returns g c =
    let l = g.B.Bank.skills c.args.below in
    let all = all_shortened_most l (λ k. g.met.B.Bank.sound c.args.below k) in
    MatchResult-weaker c.new.result c.new.ensures
    (λ cap h. (h.1 ∙ all, λ idle. h.1 ∙ all ∙ idle_halted l idle))
    (λ e h. omega (arith, h.0))
