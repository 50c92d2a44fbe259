use Rattle.entry.proofs.Adding.{ability_adds}
use Rattle.entry.proofs.laws.ability_adds.Goals as goal

pub returns : goal.returns
returns c = ability_adds c.args.ability c.args.share c.take.result c.take.ensures
