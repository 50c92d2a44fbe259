use Rattle.std.proofs.Common.{sym, ◌∙◌}
use Rattle.bank.proofs.PairCalls.{first_leaves, second_leaves}
use Rattle.bank.specs.Skills.{struck}
use Rattle.bank.proofs.pair.PairBank.halt.Goals as goal

pub returns-in-None-clause-after : goal.returns-in-None-clause-after
returns-in-None-clause-after g c =
    first_leaves _ (g.S.Bank.skills c.args.self.now.second) c.args.k struck c.halt.result _ (sym c.in_second.ensures ∙ c.in-None.is) c.halt.ensures.after

pub returns-in-Some-clause-after : goal.returns-in-Some-clause-after
returns-in-Some-clause-after g c =
    second_leaves (g.F.Bank.skills c.args.self.now.first) _ c.args.k struck c.halt-in-Some.result c.in-Some.at _ (sym c.in_second.ensures ∙ c.in-Some.is) c.halt-in-Some.ensures.after
