use Rattle.std.proofs.Common.{◌∙◌, ap, arith, rules}
use Rattle.sitting.specs.Halting.{desk}
use Rattle.sitting.proofs.Walks.{walk_on, walk_stops, walk_ends}
use Rattle.sitting.proofs.executive.Executive.halt_range.Goals as goal

pub returns-in_err-halt_at : goal.returns-in_err-halt_at
returns-in_err-halt_at g c =
    ap (λ r. (r, desk c.halt_at.new.self (g.B.Bank.skills c.halt_at.new.bank) c.halt_at.new.trace)) (search rules)
    ∙ walk_stops c.loop-at.at c.args.to _ _ c.halt_at.result c.in_err-halt_at.field-0.0 _ c.loop-at-test.true c.loop-at.invariant c.halt_at.ensures c.in_err-halt_at.was

pub loop-at-preserved : goal.loop-at-preserved
loop-at-preserved g c =
    walk_on c.loop-at.at c.args.to _ _ c.halt_at.result _ c.loop-at-test.true c.loop-at.invariant c.halt_at.ensures (search rules)

pub returns : goal.returns
returns g c = walk_ends c.loop-at.at c.args.to _ _ (omega (arith, c.loop-at-test.false)) c.loop-at.invariant
