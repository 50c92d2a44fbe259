use Rattle.std.proofs.Common.{map, ap, ◌∙◌}
use Rattle.std.proofs.lemmas.Result.{MatchResult-weaker}
use Rattle.bank.specs.Capping.{shortened}
use Rattle.bank.proofs.Shortening.{idle_halted}
use Rattle.bank.proofs.laws.cap_shortens.Goals as goal

pub returns : goal.returns
returns g c =
    let l = g.B.Bank.skills c.args.below in
    MatchResult-weaker c.new.result c.new.ensures
    (λ cap h. (h.1, λ idle. h.1 ∙ ap (map (shortened c.args.limit)) (idle_halted l idle)))
    (λ e h. h)
