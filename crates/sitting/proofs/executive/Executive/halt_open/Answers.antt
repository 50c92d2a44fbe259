use Rattle.std.proofs.Common.{◌≡◌, ◌+◌, ◌-◌, ◌∙◌, ap, sym, subst, rules}
use Rattle.sitting.specs.Halting.{desk}
use Rattle.sitting.specs.Tables.{beyond}
use Rattle.sitting.specs.Turns.{halt_open, open_halted}
use Rattle.sitting.proofs.Walks.{open_on, open_stops, open_ends}
use Rattle.sitting.proofs.executive.Executive.halt_open.Goals as goal

pub returns-in_err-halt_unless : goal.returns-in_err-halt_unless
returns-in_err-halt_unless g c =
    let d = desk c.loop-number.self (g.B.Bank.skills c.loop-number.bank) c.loop-number.trace in
    let e = desk c.halt_unless.new.self (g.B.Bank.skills c.halt_unless.new.bank) c.halt_unless.new.trace in
    ap (λ r. (r, e)) (search rules)
    ∙ open_stops
    c.args.kids
    c.loop-number.number
    c.loop-number.child
    c.args.results
    d
    e
    c.halt_unless.result
    c.in_err-halt_unless.field-0.0
    _
    c.loop-number-test.true
    c.loop-number.invariant
    (c.halt_unless.ensures ∙ ap (λ b. open_halted b c.loop-number.child d) c.has.ensures)
    c.in_err-halt_unless.was

pub loop-number-preserved : goal.loop-number-preserved
loop-number-preserved g c =
    let d = desk c.loop-number.self (g.B.Bank.skills c.loop-number.bank) c.loop-number.trace in
    let e = desk c.halt_unless.new.self (g.B.Bank.skills c.halt_unless.new.bank) c.halt_unless.new.trace in
    subst
    (λ i.
    halt_open (c.args.kids - (c.loop-number.number + 1)) (c.loop-number.number + 1) i c.args.results e
    ≡ halt_open c.args.kids 0 (beyond c.args.par 1) c.args.results (desk c.args.self.now (g.B.Bank.skills c.args.bank.now) c.args.trace.now))
    (sym c.end-end.ensures)
    (open_on
    c.args.kids
    c.loop-number.number
    c.loop-number.child
    c.args.results
    d
    e
    c.halt_unless.result
    _
    c.loop-number-test.true
    c.loop-number.invariant
    (c.halt_unless.ensures ∙ ap (λ b. open_halted b c.loop-number.child d) c.has.ensures)
    (search rules))

pub returns : goal.returns
returns g c = open_ends c.args.kids c.loop-number.number c.loop-number.child c.args.results _ _ c.loop-number-test.false c.loop-number.invariant
