use Rattle.std.proofs.Common.{◌≡◌}
use Rattle.bank.proofs.Halts.{halted_first}
use Rattle.bank.proofs.making_cap.halt_each.Given as goal

abbrev pub invariant-loop-k : goal.invariant-loop-k
invariant-loop-k g l = g.B.Bank.skills l.below ≡ halted_first l.k (g.B.Bank.skills l.initial.below)
