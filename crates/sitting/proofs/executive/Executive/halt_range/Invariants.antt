use Rattle.std.proofs.Common.{◌≡◌}
use Rattle.sitting.specs.Halting.{desk, halt_range}
use Rattle.sitting.proofs.executive.Executive.halt_range.Given as goal

-- the walk from here on gives what the whole walk gives
abbrev pub invariant-loop-at : goal.invariant-loop-at
invariant-loop-at g l =
    halt_range l.at l.to (desk l.self (g.B.Bank.skills l.bank) l.trace)
    ≡ halt_range l.fn.from l.fn.to (desk l.fn.self (g.B.Bank.skills l.fn.bank) l.fn.trace)
