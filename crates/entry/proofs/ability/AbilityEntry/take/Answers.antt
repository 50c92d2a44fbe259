use Rattle.std.proofs.Common.{◌+◌, ◌+ℤ◌, ◌∙◌, w32, SFits, arith, rules}
use Rattle.std.proofs.lemmas.Int.{ints}
use Rattle.entry.specs.Abilities.{gain}
use Rattle.entry.proofs.Making.{ability_answered}
use Rattle.entry.proofs.ability.AbilityEntry.take.Goals as goal

pub returns : goal.returns
returns c =
    let a = c.args.self in
    let s = c.args.share in
    let fits : SFits w32 (a.marks +ℤ c.gain.result) = omega (arith, ints, a.low, a.high, c.gain.ensures.low, c.gain.ensures.high) in
    c.ok.ensures.value
    ∙ ability_answered _ (a.marks +ℤ gain s) _ (a.weight + s.weight.value) c.new.result (search rules) (search rules) c.new.ensures
