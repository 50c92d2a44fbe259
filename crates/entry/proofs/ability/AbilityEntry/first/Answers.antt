use Rattle.std.proofs.Common.{rules}
use Rattle.entry.proofs.Making.{ability_first}
use Rattle.entry.proofs.ability.AbilityEntry.first.Goals as goal

pub returns : goal.returns
returns c = ability_first c.args.share _ (search rules) (search rules)
