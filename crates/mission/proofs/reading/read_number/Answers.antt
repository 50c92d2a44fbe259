use Rattle.std.proofs.Common.{rules, ◌≡◌, pos, Some, None, sym, ap, ◌∙◌, arith}
use Rattle.text.specs.Fields.{one_ended}
use Rattle.mission.proofs.LineReadings.{number_read, no_number_read}
use Rattle.mission.proofs.reading.read_number.Goals as goal

pub returns-in_err-number : goal.returns-in_err-number
returns-in_err-number g c =
    let none : c.one_number.result ≡ None = search rules in
    no_number_read g.T.TryFrom.try_from_gives c.args.name.now (pos c.args.low) (pos c.args.high) c.args.lines.now c.take.new.self c.in_ok-line.line _
    c.in_ok-line.ensures c.requires.name (sym none ∙ c.one_number.ensures ∙ ap (one_ended c.args.name.now) c.of.ensures.rest) (c.at.result, search rules, search rules, search rules)

pub returns : goal.returns
returns g c =
    let some : c.one_number.result ≡ Some c.in_ok-number.number = search rules in
    number_read g.T.TryFrom.try_from_gives c.args.name.now c.args.low c.args.high c.args.lines.now c.take.new.self c.in_ok-line.line c.in_ok-number.number c.in_range.result c.map_err.result
    c.in_ok-line.ensures (omega arith) (sym some ∙ c.one_number.ensures ∙ ap (one_ended c.args.name.now) c.of.ensures.rest) (search rules) (search rules)
