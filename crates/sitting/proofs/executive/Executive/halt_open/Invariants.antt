use Rattle.std.proofs.Common.{◌≡◌, ◌-◌}
use Rattle.sitting.specs.Halting.{desk}
use Rattle.sitting.specs.Tables.{beyond}
use Rattle.sitting.specs.Turns.{halt_open}
use Rattle.sitting.proofs.executive.Executive.halt_open.Given as goal

-- what is left to halt gives what the whole gives
abbrev pub invariant-loop-number : goal.invariant-loop-number
invariant-loop-number g l =
    halt_open (l.kids - l.number) l.number l.child l.results (desk l.self (g.B.Bank.skills l.bank) l.trace)
    ≡ halt_open l.fn.kids 0 (beyond l.fn.par 1) l.fn.results (desk l.fn.self (g.B.Bank.skills l.fn.bank) l.fn.trace)
