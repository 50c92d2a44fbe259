use Rattle.std.proofs.Common.{sym, ◌∙◌}
use Rattle.bank.proofs.CapCalls.{running_answer}
use Rattle.bank.proofs.cap.CapBank.running.Goals as goal

pub returns : goal.returns
returns g c = let b = c.args.self.now in c.running.ensures ∙ sym (running_answer b.limit b.counts (g.B.Bank.skills b.below) c.args.k)
