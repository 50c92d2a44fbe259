use Rattle.entry.proofs.Adding.{count_adds}
use Rattle.entry.proofs.laws.count_adds.Goals as goal

pub returns : goal.returns
returns c = count_adds c.args.count c.args.mark c.take.result c.take.ensures
