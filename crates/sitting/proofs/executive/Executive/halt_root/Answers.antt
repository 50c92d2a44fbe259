use Rattle.std.proofs.Common.{◌∙◌, ap}
use Rattle.sitting.specs.Halting.{desk, halt_range}
use Rattle.sitting.proofs.Ruling.{halts_agreeing, halts_holding}
use Rattle.sitting.proofs.executive.Executive.halt_root.Goals as goal

pub returns-clause-stops : goal.returns-clause-stops
returns-clause-stops g c =
    let d = desk c.args.self.now (g.B.Bank.skills c.args.bank.now) c.args.trace.now in
    halts_agreeing _ _ _ _ _ _ _ (c.halt_range.ensures ∙ ap (λ k. halt_range 0 k d) c.end.ensures)

pub returns-clause-holds : goal.returns-clause-holds
returns-clause-holds g c =
    let d = desk c.args.self.now (g.B.Bank.skills c.args.bank.now) c.args.trace.now in
    halts_holding _ _ _ _ _ _ _ (c.halt_range.ensures ∙ ap (λ k. halt_range 0 k d) c.end.ensures)
