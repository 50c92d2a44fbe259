use Rattle.std.proofs.Common.{◌∙◌, ap, sym, rules}
use Rattle.sitting.specs.Turns.{stage}
use Rattle.sitting.proofs.Turning.{visit_answers, visit_on, visit_stops, visit_ends}
use Rattle.sitting.proofs.executive.Executive.take_turns.Goals as goal

pub returns-in-Some : goal.returns-in-Some
returns-in-Some g c =
    (c.loop.stack.items, visit_answers 1024 c.loop.counter c.loop.turn _ _ _ c.loop-test.true c.loop.invariant (sym c.outcome.ensures ∙ c.in-Some.is))

pub returns-in_err-turn : goal.returns-in_err-turn
returns-in_err-turn g c =
    let k = stage c.take_turn.new.self c.take_turn.new.stack.items (g.B.Bank.skills c.take_turn.new.bank) (g.C.Board.entries c.take_turn.new.counts, g.A.Board.entries c.take_turn.new.abilities) c.take_turn.new.trace in (
      c.take_turn.new.stack.items,
      ap (λ r. (r, k)) (search rules)
          ∙ visit_stops
          1024
          c.loop.counter
          c.loop.turn
          _
          k
          c.take_turn.result
          c.in_err-turn.field-0.0
          _
          c.loop-test.true
          c.loop.invariant
          (sym c.outcome.ensures ∙ c.in_default.is)
          c.take_turn.ensures
          c.in_err-turn.was,
    )

pub loop-preserved : goal.loop-preserved
loop-preserved g c =
    visit_on
    1024
    c.loop.counter
    c.loop.turn
    c.in_ok-turn.turn
    _
    _
    c.take_turn.result
    _
    c.loop-test.true
    c.loop.invariant
    (sym c.outcome.ensures ∙ c.in_default.is)
    c.take_turn.ensures
    c.in_ok-turn.was

pub returns : goal.returns
returns g c = (c.loop.stack.items, visit_ends 1024 c.loop.counter c.loop.turn _ _ c.loop-test.false c.loop.invariant)
